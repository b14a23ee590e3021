-- Two statements that the same tokens spell are one.
use Rattle.std.proofs.Common.{◌≡◌, ℕ, ◌+◌, true, List, [], ◌∷◌, ◌++◌, refl, sym, ap, subst, ◌∙◌, append_assoc}
use Rattle.qasm_grammar.specs.declared.terminal.Terminal.{Terminal}
use Rattle.qasm_grammar.specs.declared.terminal.Terminal.TheVariants as terminals
use Rattle.qasm_grammar.specs.declared.terminal.Terminal.TheVariants.{Callee, CloseBrace, OpenBrace, Semicolon, Arrow, Name, Pauli}
use Rattle.qasm_grammar.specs.declared.spoken.GateCall.{GateCall}
use Rattle.qasm_grammar.specs.declared.spoken.BodyStatement.{BodyStatement}
use Rattle.qasm_grammar.specs.declared.spoken.BodyStatement.TheVariants as bodies
use Rattle.qasm_grammar.specs.declared.spoken.Sentence.{Sentence}
use Rattle.qasm_grammar.specs.declared.spoken.Sentence.TheVariants as sentences
use denote.Enum.Bare.{same_false}
use Rattle.qasm_grammar.specs.contracts.terminal.Terminal.{the_type}
use Rattle.qasm_grammar.specs.Forms.{fits}
use Rattle.qasm_grammar.specs.Spelling.{Piece, Stands, fixed, Spells, arg_text, names_text, args_text, call_text, body_text, bodies_text, sentence_text}
use Rattle.qasm_grammar.proofs.Steps.{own, by_callee}
use Rattle.qasm_grammar.proofs.Sole.{found_same, clash, split, bracketed, unopened, name_text, name_named, arg_named, args_closed, names_closed, arg_closed}

abbrev semicolon : List Piece
semicolon = fixed Semicolon ∷ []

abbrev brace : List Piece
brace = fixed CloseBrace ∷ []

body_one : (a b : BodyStatement) (found : List Terminal) (at m n : ℕ) → Spells (body_text a) found at m → Spells (body_text b) found at n → (a ≡ b) × (m ≡ n)
body_one (bodies.Call o c f) (bodies.Call p d g) found at m n s t =
    let e : o ≡ p = s.0.1 ∙ sym t.0.1 in
    let r = bracketed c d (names_text f ++ semicolon) (names_text g ++ semicolon) found (at + 1) m n
    (λ i. unopened name_text name_named Semicolon refl f [] found i m) (λ i. unopened name_text name_named Semicolon refl g [] found i n) s.1 t.1 in
    let q = names_closed Semicolon (own Semicolon refl) (refl, (refl, tt)) f g [] [] found r.1.0 m n r.1.1 r.1.2 in
    ((λ i. bodies.Call (e i) (r.0 i) (q.0 i)), sym q.1.1 ∙ q.1.2)
body_one (bodies.Call o c f) (bodies.Cx p g) found at m n s t = absurd (clash terminals.Cx Callee found at (own terminals.Cx refl) refl t.0.0 s.0.0)
body_one (bodies.Call o c f) (bodies.Barrier g) found at m n s t = absurd (clash terminals.Barrier Callee found at (own terminals.Barrier refl) refl t.0 s.0.0)
body_one (bodies.Cx o f) (bodies.Call p d g) found at m n s t = absurd (clash terminals.Cx Callee found at (own terminals.Cx refl) refl s.0.0 t.0.0)
body_one (bodies.Cx o f) (bodies.Cx p g) found at m n s t =
    let e : o ≡ p = s.0.1 ∙ sym t.0.1 in
    let q = names_closed Semicolon (own Semicolon refl) (refl, (refl, tt)) f g [] [] found (at + 1) m n s.1 t.1 in
    ((λ i. bodies.Cx (e i) (q.0 i)), sym q.1.1 ∙ q.1.2)
body_one (bodies.Cx o f) (bodies.Barrier g) found at m n s t = absurd (clash terminals.Cx terminals.Barrier found at (own terminals.Cx refl) refl s.0.0 t.0)
body_one (bodies.Barrier f) (bodies.Call p d g) found at m n s t = absurd (clash terminals.Barrier Callee found at (own terminals.Barrier refl) refl s.0 t.0.0)
body_one (bodies.Barrier f) (bodies.Cx p g) found at m n s t = absurd (clash terminals.Cx terminals.Barrier found at (own terminals.Cx refl) refl t.0.0 s.0)
body_one (bodies.Barrier f) (bodies.Barrier g) found at m n s t =
    let q = names_closed Semicolon (own Semicolon refl) (refl, (refl, tt)) f g [] [] found (at + 1) m n s.1 t.1 in
    ((λ i. bodies.Barrier (q.0 i)), sym q.1.1 ∙ q.1.2)

-- no statement of a body begins with the brace that ends it
no_brace : (b : BodyStatement) (ps : List Piece) (found : List Terminal) (at end : ℕ) → Spells (body_text b ++ ps) found at end → Stands CloseBrace found at → ⊥
no_brace (bodies.Call o c f) ps found at end s h = clash CloseBrace Callee found at (own CloseBrace refl) refl h s.0.0
no_brace (bodies.Cx o f) ps found at end s h = clash CloseBrace terminals.Cx found at (own CloseBrace refl) refl h s.0.0
no_brace (bodies.Barrier f) ps found at end s h = clash CloseBrace terminals.Barrier found at (own CloseBrace refl) refl h s.0

regrouped : (b : BodyStatement) (bs : List BodyStatement) (found : List Terminal) (at end : ℕ) → Spells (bodies_text (b ∷ bs) ++ brace) found at end → Spells (body_text b ++ (bodies_text bs ++ brace)) found at end
regrouped b bs found at end s =
    let P : List Piece → Type 0 = λ ps. Spells ps found at end in
    subst P (append_assoc (body_text b) (bodies_text bs) brace) s

bodies_one : (bs cs : List BodyStatement) (found : List Terminal) (at m n : ℕ) → Spells (bodies_text bs ++ brace) found at m → Spells (bodies_text cs ++ brace) found at n → (bs ≡ cs) × (m ≡ n)
bodies_one [] [] found at m n s t = (refl, sym s.1 ∙ t.1)
bodies_one [] (c ∷ cs) found at m n s t = absurd (no_brace c (bodies_text cs ++ brace) found at n (regrouped c cs found at n t) s.0)
bodies_one (b ∷ bs) [] found at m n s t = absurd (no_brace b (bodies_text bs ++ brace) found at m (regrouped b bs found at m s) t.0)
bodies_one (b ∷ bs) (c ∷ cs) found at m n s t =
    let p = split (body_text b) (bodies_text bs ++ brace) found at m (regrouped b bs found at m s) in
    let q = split (body_text c) (bodies_text cs ++ brace) found at n (regrouped c cs found at n t) in
    let h = body_one b c found at p.0 q.0 p.1 q.1 in
    let Q : ℕ → Type 0 = λ i. Spells (bodies_text cs ++ brace) found i n in
    let r = bodies_one bs cs found p.0 m n p.2 (subst Q (sym h.1) q.2) in
    ((λ i. h.0 i ∷ r.0 i), r.1)

call_is : (c d : GateCall) → c.name ≡ d.name → c.brackets ≡ d.brackets → c.args ≡ d.args → c ≡ d
call_is c d e f g = (λ i. record { name = e i; brackets = f i; args = g i })

call_one : (wanted : Terminal) (c d : GateCall) (found : List Terminal) (at m n : ℕ) → Spells (call_text wanted c) found at m → Spells (call_text wanted d) found at n → (c ≡ d) × (m ≡ n)
call_one wanted c d found at m n s t =
    let r = bracketed c.brackets d.brackets (args_text c.args ++ semicolon) (args_text d.args ++ semicolon) found (at + 1) m n
    (λ i. unopened arg_text arg_named Semicolon refl c.args [] found i m) (λ i. unopened arg_text arg_named Semicolon refl d.args [] found i n) s.1 t.1 in
    let q = args_closed c.args d.args [] [] found r.1.0 m n r.1.1 r.1.2 in
    (call_is c d (s.0.1 ∙ sym t.0.1) r.0 q.0, sym q.1.1 ∙ q.1.2)

-- the first token of a statement, as the grammar means it
abbrev lead : Sentence → Terminal
lead sentences.Include = terminals.Include
lead (sentences.Qreg name size) = terminals.Qreg
lead (sentences.Creg name size) = terminals.Creg
lead (sentences.Gate name brackets formals body) = terminals.Gate
lead (sentences.Call call) = terminals.Callee
lead (sentences.If register value call) = terminals.If
lead (sentences.Cx args) = terminals.Cx
lead (sentences.Measure from to) = terminals.Measure
lead (sentences.Barrier args) = terminals.Barrier
lead (sentences.Reset a) = terminals.Reset

lead_stands : (s : Sentence) (found : List Terminal) (at end : ℕ) → Spells (sentence_text s) found at end → Stands (lead s) found at
lead_stands sentences.Include found at end h = h.0
lead_stands (sentences.Qreg name size) found at end h = h.0
lead_stands (sentences.Creg name size) found at end h = h.0
lead_stands (sentences.Gate name brackets formals body) found at end h = h.0
lead_stands (sentences.Call call) found at end h = h.0.0
lead_stands (sentences.If register value call) found at end h = h.0
lead_stands (sentences.Cx args) found at end h = h.0
lead_stands (sentences.Measure from to) found at end h = h.0
lead_stands (sentences.Barrier args) found at end h = h.0
lead_stands (sentences.Reset a) found at end h = h.0

abbrev lead_of : Terminal → Terminal
lead_of terminals.Name = terminals.Callee
lead_of terminals.Pauli = terminals.Callee
lead_of t = t

lead_callee : (t : Terminal) → fits t terminals.Callee ≡ true → lead_of t ≡ terminals.Callee
lead_callee = by_callee (λ t. lead_of t ≡ terminals.Callee) refl refl refl

lead_is : (s : Sentence) (t : Terminal) → fits t (lead s) ≡ true → lead_of t ≡ lead s
lead_is sentences.Include t e = ap lead_of (own terminals.Include refl t e)
lead_is (sentences.Qreg name size) t e = ap lead_of (own terminals.Qreg refl t e)
lead_is (sentences.Creg name size) t e = ap lead_of (own terminals.Creg refl t e)
lead_is (sentences.Gate name brackets formals body) t e = ap lead_of (own terminals.Gate refl t e)
lead_is (sentences.Call call) t e = lead_callee t e
lead_is (sentences.If register value call) t e = ap lead_of (own terminals.If refl t e)
lead_is (sentences.Cx args) t e = ap lead_of (own terminals.Cx refl t e)
lead_is (sentences.Measure from to) t e = ap lead_of (own terminals.Measure refl t e)
lead_is (sentences.Barrier args) t e = ap lead_of (own terminals.Barrier refl t e)
lead_is (sentences.Reset a) t e = ap lead_of (own terminals.Reset refl t e)

same_lead : (s u : Sentence) (found : List Terminal) (at : ℕ) → Stands (lead s) found at → Stands (lead u) found at → lead s ≡ lead u
same_lead s u found at h k = sym (lead_is s h.0 h.2) ∙ ap lead_of (found_same found at h.0 k.0 h.1 k.1) ∙ lead_is u k.0 k.2

alike : (s u : Sentence) → lead s ≡ lead u → (found : List Terminal) (at m n : ℕ) → Spells (sentence_text s) found at m → Spells (sentence_text u) found at n → (s ≡ u) × (m ≡ n)
alike sentences.Include sentences.Include l found at m n s t = (refl, sym s.1.1.1 ∙ t.1.1.1)
alike (sentences.Qreg o z) (sentences.Qreg p y) l found at m n s t =
    let e : o ≡ p = s.1.0.1 ∙ sym t.1.0.1 in
    let f : z ≡ y = s.1.1.1.0.1 ∙ sym t.1.1.1.0.1 in
    ((λ i. sentences.Qreg (e i) (f i)), sym s.1.1.1.1.1.1 ∙ t.1.1.1.1.1.1)
alike (sentences.Creg o z) (sentences.Creg p y) l found at m n s t =
    let e : o ≡ p = s.1.0.1 ∙ sym t.1.0.1 in
    let f : z ≡ y = s.1.1.1.0.1 ∙ sym t.1.1.1.0.1 in
    ((λ i. sentences.Creg (e i) (f i)), sym s.1.1.1.1.1.1 ∙ t.1.1.1.1.1.1)
alike (sentences.Gate o c f body) (sentences.Gate p d g body') l found at m n s t =
    let e : o ≡ p = s.1.0.1 ∙ sym t.1.0.1 in
    let b = bodies_text body ++ brace in
    let b' = bodies_text body' ++ brace in
    let r = bracketed c d (names_text f ++ (fixed OpenBrace ∷ b)) (names_text g ++ (fixed OpenBrace ∷ b')) found (at + 1 + 1) m n
    (λ i. unopened name_text name_named OpenBrace refl f b found i m) (λ i. unopened name_text name_named OpenBrace refl g b' found i n) s.1.1 t.1.1 in
    let q = names_closed OpenBrace (own OpenBrace refl) (refl, (refl, tt)) f g b b' found r.1.0 m n r.1.1 r.1.2 in
    let h = bodies_one body body' found q.1.0 m n q.1.1 q.1.2 in
    ((λ i. sentences.Gate (e i) (r.0 i) (q.0 i) (h.0 i)), h.1)
alike (sentences.Call c) (sentences.Call d) l found at m n s t =
    let p = call_one Callee c d found at m n s t in
    ((λ i. sentences.Call (p.0 i)), p.1)
alike (sentences.If o v c) (sentences.If p w d) l found at m n s t =
    let e : o ≡ p = s.1.1.0.1 ∙ sym t.1.1.0.1 in
    let f : v ≡ w = s.1.1.1.1.0.1 ∙ sym t.1.1.1.1.0.1 in
    let q = call_one Pauli c d found (at + 1 + 1 + 1 + 1 + 1 + 1) m n s.1.1.1.1.1.1 t.1.1.1.1.1.1 in
    ((λ i. sentences.If (e i) (f i) (q.0 i)), q.1)
alike (sentences.Cx a) (sentences.Cx b) l found at m n s t =
    let q = args_closed a b [] [] found (at + 1) m n s.1 t.1 in
    ((λ i. sentences.Cx (q.0 i)), sym q.1.1 ∙ q.1.2)
alike (sentences.Measure a b) (sentences.Measure c d) l found at m n s t =
    let p = arg_closed Arrow (own Arrow refl) refl a c (arg_text b ++ semicolon) (arg_text d ++ semicolon) found (at + 1) m n s.1 t.1 in
    let q = arg_closed Semicolon (own Semicolon refl) refl b d [] [] found p.1.0 m n p.1.1 p.1.2 in
    ((λ i. sentences.Measure (p.0 i) (q.0 i)), sym q.1.1 ∙ q.1.2)
alike (sentences.Barrier a) (sentences.Barrier b) l found at m n s t =
    let q = args_closed a b [] [] found (at + 1) m n s.1 t.1 in
    ((λ i. sentences.Barrier (q.0 i)), sym q.1.1 ∙ q.1.2)
alike (sentences.Reset a) (sentences.Reset b) l found at m n s t =
    let q = arg_closed Semicolon (own Semicolon refl) refl a b [] [] found (at + 1) m n s.1 t.1 in
    ((λ i. sentences.Reset (q.0 i)), sym q.1.1 ∙ q.1.2)
alike s u l found at m n p q = absurd (same_false the_type (lead s) (lead u) refl l)

pub sentence_one : (s u : Sentence) (found : List Terminal) (at m n : ℕ) → Spells (sentence_text s) found at m → Spells (sentence_text u) found at n → (s ≡ u) × (m ≡ n)
sentence_one s u found at m n p q = alike s u (same_lead s u found at (lead_stands s found at m p) (lead_stands u found at n q)) found at m n p q
