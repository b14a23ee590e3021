-- Tokens that the grammar allows as a statement spell one.
use Rattle.std.proofs.Common.{◌≡◌, ◌<◌, ◌≤◌, inl, inr, ℕ, suc, zero, ◌+◌, Bool, true, false, List, [], ◌∷◌, ◌++◌, Option, None, length, take, drop, Some, refl, sym, ap, subst, ◌∙◌, arith, append-nil}
use Rattle.std.specs.List.{slice_get, flat_map}
use Rattle.std.proofs.lemmas.List.{drop-drop, length-drop}
use Rattle.qasm_grammar.specs.declared.follow.Refusal.{Refusal}
use Rattle.qasm_grammar.specs.declared.follow.Refusal.TheVariants.{Parameters, Unsupported}
use Rattle.qasm_grammar.specs.declared.terminal.Terminal.{Terminal}
use Rattle.qasm_grammar.specs.declared.terminal.Terminal.TheVariants as terminals
use Rattle.qasm_grammar.specs.declared.terminal.Terminal.TheVariants.{Callee, CloseBrace, OpenBrace, Semicolon, Comma, Arrow, Equals, Name, Pauli, Open, Close, OpenBracket, CloseBracket, Qelib, Quoted, Whole, Word, Opaque, Taken}
use Rattle.qasm_grammar.specs.declared.spoken.Argument.{Argument}
use Rattle.qasm_grammar.specs.declared.spoken.Argument.TheVariants as arguments
use Rattle.qasm_grammar.specs.declared.spoken.GateCall.{GateCall}
use Rattle.qasm_grammar.specs.declared.spoken.BodyStatement.{BodyStatement}
use Rattle.qasm_grammar.specs.declared.spoken.BodyStatement.TheVariants as ops
use Rattle.qasm_grammar.specs.declared.spoken.Sentence.{Sentence}
use Rattle.qasm_grammar.specs.declared.spoken.Sentence.TheVariants as sentences
use Rattle.qasm_grammar.specs.Forms.{Form, fits, done, one, must, never, either, many, optional, ◌⨾◌, ◌or◌}
use Rattle.qasm_grammar.specs.Grammar.{arg, args, names, brackets, include, register, call_of, named_call, cx_call, measure, barrier, reset, names_after, body_call, body, bodies, gate, if_equal, statement, one_statement}
use Rattle.qasm_grammar.specs.Meaning.{Allows, Each, joined}
use Rattle.qasm_grammar.specs.Spelling.{Piece, Stands, fixed, given, Spells, listed, arg_text, names_text, args_text, brackets_text, register_text, call_text, body_text, sentence_text}
use Rattle.qasm_grammar.specs.Laws.{SomeSentence}
use Rattle.qasm_grammar.proofs.Allowed.{from_then, from_or, reads_to}
use Rattle.qasm_grammar.proofs.Spelled.{spells_more, get_drop}

-- these tokens stand one after another, from a place up to another
abbrev Lies : List Terminal → List Terminal → ℕ → ℕ → Type 0
Lies [] found at end = at ≡ end
Lies (t ∷ ts) found at end = (slice_get found at ≡ Some t) × Lies ts found (at + 1) end

lies_split : (ts us : List Terminal) (found : List Terminal) (at end : ℕ) → Lies (ts ++ us) found at end → (mid : ℕ) × Lies ts found at mid × Lies us found mid end
lies_split [] us found at end l = (at, refl, l)
lies_split (t ∷ ts) us found at end l =
    let r = lies_split ts us found (at + 1) end l.1 in
    (r.0, (l.0, r.1), r.2)

-- the first tokens from a place on
lies_first : (n : ℕ) (found : List Terminal) (at : ℕ) (ts : List Terminal) → drop at found ≡ ts → n ≤ length ts → Lies (take n ts) found at (at + n)
lies_first zero found at ts d le = omega arith
lies_first (suc n) found at [] d le = absurd (omega (arith, le))
lies_first (suc n) found at (t ∷ ts) d le =
    let rest : drop (at + 1) found ≡ ts = sym (drop-drop 1 at found) ∙ ap (λ (us : List Terminal). drop 1 us) d in
    let same_end : at + 1 + n ≡ at + suc n = omega arith in
    (get_drop found at t ts d, subst (λ (m : ℕ). Lies (take n ts) found (at + 1) m) same_end (lies_first n found (at + 1) ts rest (omega (arith, le))))

-- tokens that a form allows spell a value
record Makes (X : Type 0) (f : Form) (text : X → List Piece) : Type 0 where
  pub value : (ts found : List Terminal) (at end : ℕ) → Allows f ts → Lies ts found at end → (x : X) × Spells (text x) found at end

stands_one : (s : Terminal) (ts found : List Terminal) (at end : ℕ) → (t : Terminal) × (ts ≡ t ∷ []) × (fits t s ≡ true) → Lies ts found at end → Stands s found at × (at + 1 ≡ end)
stands_one s ts found at end a l =
    let r = subst (λ (us : List Terminal). Lies us found at end) a.1 l in
    ((a.0, r.0, a.2), r.1)

abbrev fixed_one : Terminal → Unit {0} → List Piece
fixed_one s u = fixed s ∷ []

abbrev given_one : Terminal → ℕ → List Piece
given_one s n = given s n ∷ []

abbrev nothing : Unit {0} → List Piece
nothing u = []

make_fixed : (s : Terminal) → Makes (Unit {0}) (one s) (fixed_one s)
make_fixed s = record { value = λ ts found at end a l. (tt, stands_one s ts found at end a l) }

make_must : (kind : Refusal) (s : Terminal) → Makes (Unit {0}) (must kind s) (fixed_one s)
make_must kind s = record { value = λ ts found at end a l. (tt, stands_one s ts found at end a l) }

make_given : (s : Terminal) → Makes ℕ (one s) (given_one s)
make_given s = record { value = λ ts found at end a l. (let r = stands_one s ts found at end a l in (at, ((r.0, refl), r.1))) }

make_never : {X : Type 0} (text : X → List Piece) (kind : Refusal) (s : Terminal) → Makes X (never kind s) text
make_never text kind s = record { value = λ ts found at end a l. absurd a }

make_then : {X Y : Type 0} {text : X → List Piece} {more : Y → List Piece} {f g : Form} → Makes X f text → Makes Y g more → Makes (X × Y) (f ⨾ g) (λ p. text p.0 ++ more p.1)
make_then {X} {Y} {text} {more} {f} {g} p q = record {
  value = λ ts found at end a l.
      let b = from_then f g ts a in
      let cut = lies_split b.0 b.1 found at end (subst (λ (us : List Terminal). Lies us found at end) b.2 l) in
      let x = p.value b.0 found at cut.0 b.3 cut.1 in
      let y = q.value b.1 found cut.0 end b.4 cut.2 in
      ((x.0, y.0), spells_more (text x.0) (more y.0) found at cut.0 end x.1 y.1);
}

make_or : {X : Type 0} {text : X → List Piece} {f g : Form} → Makes X f text → Makes X g text → Makes X (f or g) text
make_or {X} {text} {f} {g} p q = record {
  value = λ ts found at end a l. elim (from_or f g ts a) [ inl b ↦ p.value ts found at end b l | inr b ↦ q.value ts found at end b l ];
}

make_either : {X : Type 0} {text : X → List Piece} {f g : Form} → Makes X f text → Makes X g text → Makes X (either f g) text
make_either p q = record { value = λ ts found at end a l. elim a [ inl b ↦ p.value ts found at end b l | inr b ↦ q.value ts found at end b l ] }

make_done : Makes (Unit {0}) done nothing
make_done = record { value = λ ts found at end a l. (tt, subst (λ (us : List Terminal). Lies us found at end) a l) }

-- a value that is made of another, with the same pieces
make_map : {X Y : Type 0} {text : X → List Piece} {f : Form} → Makes X f text → (h : X → Y) (more : Y → List Piece) → ((x : X) → text x ≡ more (h x)) → Makes Y f more
make_map p h more same = record {
  value = λ ts found at end a l.
      let x = p.value ts found at end a l in
      (h x.0, subst (λ (ps : List Piece). Spells ps found at end) (same x.0) x.1);
}

make_each : {X : Type 0} {text : X → List Piece} {f : Form} → Makes X f text → (parts : List (List Terminal)) (found : List Terminal) (at end : ℕ) → Each (Allows f) parts → Lies (joined parts) found at end → (xs : List X) × Spells (flat_map text xs) found at end
make_each p [] found at end each l = ([], l)
make_each {X} {text} {f} p (part ∷ parts) found at end each l =
    let cut = lies_split part (joined parts) found at end l in
    let x = p.value part found at cut.0 each.0 cut.1 in
    let xs = make_each p parts found cut.0 end each.1 cut.2 in
    (x.0 ∷ xs.0, spells_more (text x.0) (flat_map text xs.0) found at cut.0 end x.1 xs.1)

make_many : {X : Type 0} {text : X → List Piece} {f : Form} → Makes X f text → Makes (List X) (many f) (flat_map text)
make_many p = record { value = λ ts found at end a l. make_each p a.0 found at end a.2 (subst (λ (us : List Terminal). Lies us found at end) a.1 l) }

-- the first, and each further one after a comma
make_list : {X : Type 0} {text : X → List Piece} {f : Form} → Makes X f text → Makes (List X) (f ⨾ many (one Comma ⨾ f)) (listed text)
make_list {X} {text} {f} p =
    let further : X → List Piece = λ y. fixed Comma ∷ text y in
    let next : Makes X (one Comma ⨾ f) further = make_map (make_then (make_fixed Comma) p) (λ q. q.1) further (λ q. refl) in
    make_map (make_then p (make_many next)) (λ q. q.0 ∷ q.1) (listed text) (λ q. refl)

abbrev index_text : Option ℕ → List Piece
index_text None = []
index_text (Some i) = fixed OpenBracket ∷ given Whole i ∷ fixed CloseBracket ∷ []

abbrev arg_of : ℕ → Option ℕ → Argument
arg_of n None = arguments.Whole n
arg_of n (Some i) = arguments.Single n i

same_arg : (n : ℕ) (i : Option ℕ) → given_one Name n ++ index_text i ≡ arg_text (arg_of n i)
same_arg n None = refl
same_arg n (Some i) = refl

make_index : Makes (Option ℕ) (optional (one OpenBracket ⨾ one Whole ⨾ one CloseBracket)) index_text
make_index =
    make_either
    (make_map (make_then (make_fixed OpenBracket) (make_then (make_given Whole) (make_fixed CloseBracket))) (λ q. Some q.1.0) index_text (λ q. refl))
    (make_map make_done (λ u. None) index_text (λ u. refl))

make_arg : Makes Argument arg arg_text
unfolding arg
make_arg = make_map (make_then (make_given Name) make_index) (λ q. arg_of q.0 q.1) arg_text (λ q. same_arg q.0 q.1)

make_args : Makes (List Argument) args args_text
unfolding args
make_args = make_list make_arg

make_names : Makes (List ℕ) names names_text
unfolding names
make_names = make_list (make_given Name)

make_brackets : Makes Bool brackets brackets_text
unfolding brackets
make_brackets =
    make_either
    (make_map (make_then (make_fixed Open) (make_must Parameters Close)) (λ q. true) brackets_text (λ q. refl))
    (make_map make_done (λ u. false) brackets_text (λ u. refl))

make_include : Makes Sentence include sentence_text
unfolding include
make_include =
    make_map (make_then (make_fixed terminals.Include) (make_then (make_or (make_fixed Qelib) (make_never (fixed_one Qelib) Unsupported Quoted)) (make_fixed Semicolon))) (λ q. sentences.Include) sentence_text (λ q. refl)

make_register : (kind : Terminal) (of : ℕ → ℕ → Sentence) → ((n i : ℕ) → register_text kind n i ≡ sentence_text (of n i)) → Makes Sentence (register kind) sentence_text
unfolding register
make_register kind of same =
    make_map (make_then (make_fixed kind) (make_then (make_given Name) (make_then (make_fixed OpenBracket) (make_then (make_given Whole) (make_then (make_fixed CloseBracket) (make_fixed Semicolon)))))) (λ q. of q.1.0 q.1.1.1.0) sentence_text (λ q. same q.1.0 q.1.1.1.0)

make_call : (callee : Terminal) → Makes GateCall (call_of callee) (call_text callee)
unfolding call_of
make_call callee =
    make_map (make_then (make_given callee) (make_then make_brackets (make_then make_args (make_fixed Semicolon)))) (λ q. record { name = q.0; brackets = q.1.0; args = q.1.1.0 }) (call_text callee) (λ q. refl)

make_named_call : Makes Sentence named_call sentence_text
unfolding named_call
make_named_call = make_map (make_call Callee) (λ c. sentences.Call c) sentence_text (λ c. refl)

make_cx_call : Makes Sentence cx_call sentence_text
unfolding cx_call
make_cx_call = make_map (make_then (make_fixed terminals.Cx) (make_then make_args (make_fixed Semicolon))) (λ q. sentences.Cx q.1.0) sentence_text (λ q. refl)

make_measure : Makes Sentence measure sentence_text
unfolding measure
make_measure =
    make_map (make_then (make_fixed terminals.Measure) (make_then make_arg (make_then (make_fixed Arrow) (make_then make_arg (make_fixed Semicolon))))) (λ q. sentences.Measure q.1.0 q.1.1.1.0) sentence_text (λ q. refl)

make_barrier : Makes Sentence barrier sentence_text
unfolding barrier
make_barrier = make_map (make_then (make_fixed terminals.Barrier) (make_then make_args (make_fixed Semicolon))) (λ q. sentences.Barrier q.1.0) sentence_text (λ q. refl)

make_reset : Makes Sentence reset sentence_text
unfolding reset
make_reset = make_map (make_then (make_fixed terminals.Reset) (make_then make_arg (make_fixed Semicolon))) (λ q. sentences.Reset q.1.0) sentence_text (λ q. refl)

make_body_call : Makes BodyStatement body_call body_text
unfolding body_call
make_body_call =
    make_map (make_then (make_given Callee) (make_then make_brackets (make_then make_names (make_fixed Semicolon)))) (λ q. ops.Call q.0 q.1.0 q.1.1.0) body_text (λ q. refl)

make_body_cx : Makes BodyStatement (names_after terminals.Cx) body_text
unfolding names_after
make_body_cx = make_map (make_then (make_given terminals.Cx) (make_then make_names (make_fixed Semicolon))) (λ q. ops.Cx q.0 q.1.0) body_text (λ q. refl)

make_body_barrier : Makes BodyStatement (names_after terminals.Barrier) body_text
unfolding names_after
make_body_barrier = make_map (make_then (make_fixed terminals.Barrier) (make_then make_names (make_fixed Semicolon))) (λ q. ops.Barrier q.1.0) body_text (λ q. refl)

make_body : Makes BodyStatement body body_text
unfolding body
make_body = make_or (make_never body_text Unsupported Opaque) (make_or (make_never body_text Unsupported Taken) (make_or make_body_call (make_or make_body_cx make_body_barrier)))

abbrev closed_text : List BodyStatement × Unit {0} → List Piece
closed_text q = flat_map body_text q.0 ++ fixed_one CloseBrace q.1

make_bodies : Makes (List BodyStatement × Unit {0}) bodies closed_text
unfolding bodies
make_bodies = make_then (make_many make_body) (make_fixed CloseBrace)

make_gate : Makes Sentence gate sentence_text
unfolding gate
make_gate =
    make_map (make_then (make_fixed terminals.Gate) (make_then (make_given Name) (make_then make_brackets (make_then make_names (make_then (make_fixed OpenBrace) make_bodies))))) (λ q. sentences.Gate q.1.0 q.1.1.0 q.1.1.1.0 q.1.1.1.1.1.0) sentence_text (λ q. refl)

make_if : Makes Sentence if_equal sentence_text
unfolding if_equal
make_if =
    make_map
    (make_then (make_fixed terminals.If) (make_then (make_fixed Open) (make_then (make_given Name) (make_then (make_fixed Equals) (make_then (make_given Whole) (make_then (make_fixed Close) (make_or (make_call Pauli) (make_never (call_text Pauli) Unsupported Word))))))))
    (λ q. sentences.If q.1.1.0 q.1.1.1.1.0 q.1.1.1.1.1.1) sentence_text (λ q. refl)

make_statement : Makes Sentence statement sentence_text
unfolding statement
make_statement =
    make_or (make_never sentence_text Unsupported Opaque) (make_or (make_never sentence_text Unsupported Taken) (make_or make_include (make_or (make_register terminals.Qreg sentences.Qreg (λ n i. refl)) (make_or (make_register terminals.Creg sentences.Creg (λ n i. refl)) (make_or make_gate (make_or make_named_call (make_or make_cx_call (make_or make_measure (make_or make_barrier (make_or make_reset make_if))))))))))

make_one : Makes Sentence one_statement sentence_text
make_one = make_map (make_then make_statement make_done) (λ q. q.0) sentence_text (λ q. append-nil (sentence_text q.0))

spells_on : (ps : List Piece) (found : List Terminal) (at end : ℕ) → Spells ps found at end → at ≤ end
spells_on [] found at end s = omega (arith, s)
spells_on (p ∷ ps) found at end s = omega (arith, spells_on ps found (at + 1) end s.1)

abbrev HasPieces : List Piece → Type 0
HasPieces [] = ⊥
HasPieces (p ∷ ps) = Unit {0}

goes_further : (ps : List Piece) (found : List Terminal) (at end : ℕ) → HasPieces ps → Spells ps found at end → at < end
goes_further [] found at end some s = absurd some
goes_further (p ∷ ps) found at end some s = omega (arith, spells_on ps found (at + 1) end s.1)

-- a statement has a token
some_pieces : (s : Sentence) → HasPieces (sentence_text s)
some_pieces sentences.Include = tt
some_pieces (sentences.Qreg name size) = tt
some_pieces (sentences.Creg name size) = tt
some_pieces (sentences.Gate name round formals inside) = tt
some_pieces (sentences.Call call) = tt
some_pieces (sentences.If bits value call) = tt
some_pieces (sentences.Cx operands) = tt
some_pieces (sentences.Measure from to) = tt
some_pieces (sentences.Barrier operands) = tt
some_pieces (sentences.Reset a) = tt

pub some_sentence : SomeSentence
some_sentence found at end e =
    let r = reads_to one_statement (drop at found) at end e in
    let lies : Lies (take r.taken (drop at found)) found at (at + r.taken) = lies_first r.taken found at (drop at found) refl r.within in
    let made = make_one.value (take r.taken (drop at found)) found at end r.allowed (subst (λ (m : ℕ). Lies (take r.taken (drop at found)) found at m) (sym r.place) lies) in
    let longer = goes_further (sentence_text made.0) found at end (some_pieces made.0) made.1 in
    (made.0, made.1, longer, omega (arith, longer, r.place, r.within, length-drop at found))
