-- A program's classical registers are those that a product list may declare, and the values of its conditions are words of 32 bits.
use Rattle.std.proofs.Common.{◌≡◌, ℕ, ◌+◌, ◌<◌, ◌≤◌, ◌^◌, ◌==◌, ◌&&◌, ◌||◌, nat_le, nat_lt, not, cond, Bool, true, false, IsTrue, is_some, List, [], ◌∷◌, ◌++◌, length, map, slice_get, slice_range, slice_index, codes, decimal, Option, Some, None, Result, Ok, Err, refl, sym, ◌∙◌, ap, subst, arith}
use Rattle.std.specs.List.{list_all, list_any, position_or_len, AllByRecursion as ByRecursion}
use Rattle.std.specs.Str.{bytes_eq}
use Rattle.std.specs.Str.Parse.{digits_value}
use Rattle.std.proofs.lemmas.Bool.{and_from, and_parts, eqb-false, false≢true, lt-ltb, ltb-false, ltb-true, not_from_false, or_left, or_parts, or_right}
use Rattle.std.proofs.lemmas.Slice.Eq.{bytes_eq-Decides}
use Rattle.std.proofs.lemmas.List.{length-map, map-append}
use Rattle.std.proofs.lemmas.List.Sums.{sum_by-append, sum_by-cons}
use Rattle.std.proofs.lemmas.List.Folds.{list_any-append}
use Rattle.patch_base.specs.Names.{begins_as_name, is_keyword, is_lower, is_name, is_word_byte}
use Rattle.qasm_lex.specs.declared.Token.{Token}
use Rattle.qasm_lex.specs.declared.TokenKind.{TokenKind}
use Rattle.qasm_lex.specs.declared.TokenKind.TheVariants as token_kinds
use Rattle.qasm_lex.specs.declared.fault.FaultKind.TheVariants as faults
use Rattle.qasm_lex.specs.Tokens.{IsPlaced, is_digit, is_whole, is_word_byte as is_token_byte, starts_word, tokens_of}
use Rattle.qasm_parse.specs.declared.stop.Stop.{Stop}
use Rattle.qasm_grammar.specs.declared.spoken.Sentence.{Sentence}
use Rattle.qasm_grammar.specs.declared.spoken.Sentence.TheVariants as sentences
use Rattle.qasm_grammar.specs.declared.terminal.Terminal.{Terminal}
use Rattle.qasm_grammar.specs.declared.terminal.Terminal.TheVariants as terms
use Rattle.qasm_parse.specs.declared.known.Known.{Known}
use Rattle.qasm_parse.specs.declared.tree.Statement.{Statement}
use Rattle.qasm_parse.specs.declared.tree.Statement.TheVariants as statements
use Rattle.qasm_parse.specs.declared.tree.Tree.{Tree}
use Rattle.qasm_parse.specs.Lexed.{Lexed, end_of, number_at, start_of, word_at}
use Rattle.qasm_parse.specs.Refused.{told}
use Rattle.qasm_parse.specs.Words.{is_reserved, kind_terminal, quoted_terminal, real_terminal, starts_name, statement_word, symbol_terminal, terminal_of, word_terminal}
use Rattle.qasm_parse.specs.Forms.{fits, reads}
use Rattle.qasm_parse.specs.Grammar.{one_version}
use Rattle.qasm_parse.specs.Spelling.{Spells, Stands, sentence_text}
use Rattle.qasm_parse.specs.Known.{is_declared, nothing_known, place_of}
use Rattle.qasm_parse.specs.Faults.{bits_pass, broken, faults as faults_of, first_fault}
use Rattle.qasm_parse.specs.Behind.{behind, declared_at, with_classical, with_statement}
use Rattle.qasm_parse.specs.Pass.Continues.{breaks, ends, goes_on, stops}
use Rattle.qasm_parse.specs.Pass.{Behind, Continues, terminals}
use Rattle.source_model.specs.declared.Register.{Register}
use Rattle.source_model.specs.Circuits.{bits_in}
use Rattle.rotation_list.specs.Items.{IsTreeOf, register_in}
use Rattle.product_list.specs.ListText.{named}
use Rattle.product_list.specs.Listable.{AreDeclared, IsNext}
use Rattle.product_list.proofs.Laws.{declared_more}
use Rattle.rotation_list.proofs.Each.{both_parts}
use Rattle.rotation_list.proofs.Named.{AreRead, NoName, WordBytes, behind_here, behind_rest, contradicted, end_is, few_before, neither, start_is, symbol_nameless, token_of, unbroken, unless_ok, wordy}

bits_more : (rs : List Register) (r : Register) → bits_in (rs ++ r ∷ []) ≡ bits_in rs + r.size
bits_more rs r = let whole = sum_by-append (λ (x : Register). x.size) rs (r ∷ []) in let last = sum_by-cons (λ (x : Register). x.size) r [] in omega arith

word_small : (v : List ℕ) → is_whole v ≡ true → digits_value 10 v < 2 ^ 32
unfolding is_whole
word_small v h = let p = and_parts (nat_lt (digits_value 10 v) 4294967296) (bytes_eq v (decimal (digits_value 10 v))) h in let l = ltb-true (digits_value 10 v) 4294967296 p.0 in omega arith

-- ---- a name of a program is a name

no_name : (b : Bool) (x y : Terminal) → NoName x → fits (cond b x y) terms.Name ≡ true → (b ≡ false) × (fits y terms.Name ≡ true)
no_name true x y n h = contradicted (fits x terms.Name) n h
no_name false x y n h = (refl, h)

has_name : (b : Bool) (x y : Terminal) → NoName y → fits (cond b x y) terms.Name ≡ true → (b ≡ true) × (fits x terms.Name ≡ true)
has_name true x y n h = (refl, h)
has_name false x y n h = contradicted (fits y terms.Name) n h

other_order : (a u s d : Bool) → (a || u || s) || d ≡ true → a || u || d || s ≡ true
other_order true u s d h = refl
other_order false true s d h = refl
other_order false false true true h = refl
other_order false false true false h = refl
other_order false false false d h = or_left d false h

word_byte : (b : ℕ) → is_token_byte b ≡ true → is_word_byte b ≡ true
unfolding is_token_byte starts_word is_digit
word_byte b h = other_order (is_lower b) (nat_le 65 b && nat_le b 90) (b == 95) (nat_le 48 b && nat_le b 57) h

word_bytes : (w : List ℕ) → list_all is_token_byte w ≡ true → list_all is_word_byte w ≡ true
word_bytes [] h = refl
word_bytes (b ∷ bs) h = let p = and_parts (is_token_byte b) (list_all is_token_byte bs) h in and_from (is_word_byte b) (list_all is_word_byte bs) (word_byte b p.0) (word_bytes bs p.1)

name_begins : (w : List ℕ) → starts_name (slice_index w 0) ≡ true → begins_as_name w ≡ true
unfolding starts_name
name_begins [] h = h
name_begins (b ∷ bs) h = h

-- words that are no names
record IsNoKeyword (w : List ℕ) : Type 0 where
  opaque_word : bytes_eq w (codes "opaque") ≡ false
  reserved : is_reserved w ≡ false
  include_word : bytes_eq w (codes "include") ≡ false
  qreg_word : bytes_eq w (codes "qreg") ≡ false
  creg_word : bytes_eq w (codes "creg") ≡ false
  gate_word : bytes_eq w (codes "gate") ≡ false
  measure_word : bytes_eq w (codes "measure") ≡ false
  barrier_word : bytes_eq w (codes "barrier") ≡ false
  reset_word : bytes_eq w (codes "reset") ≡ false
  if_word : bytes_eq w (codes "if") ≡ false

no_keyword : (w : List ℕ) → IsNoKeyword w → is_keyword w ≡ false
unfolding is_reserved
no_keyword w h =
    let r6 = or_parts _ (bytes_eq w (codes "sqrt")) h.reserved in
    let r5 = or_parts _ (bytes_eq w (codes "ln")) r6.0 in
    let r4 = or_parts _ (bytes_eq w (codes "exp")) r5.0 in
    let r3 = or_parts _ (bytes_eq w (codes "tan")) r4.0 in
    let r2 = or_parts _ (bytes_eq w (codes "cos")) r3.0 in
    let r1 = or_parts (bytes_eq w (codes "pi")) (bytes_eq w (codes "sin")) r2.0 in
    let e0 = h.include_word in
    let e1 = h.qreg_word in
    let e2 = h.creg_word in
    let e3 = h.gate_word in
    let e4 = h.opaque_word in
    let e5 = h.measure_word in
    let e6 = h.reset_word in
    let e7 = h.barrier_word in
    let e8 = h.if_word in
    rw (e0, e1, e2, e3, e4, e5, e6, e7, e8, r1.0, r1.1, r2.1, r3.1, r4.1, r5.1, r6.1) refl

name_word : (included : Bool) (w : List ℕ) → fits (word_terminal included w) terms.Name ≡ true → list_all is_token_byte w ≡ true → IsTrue (is_name w)
unfolding word_terminal statement_word is_name
name_word included w h bytes =
    let a0 = no_name (bytes_eq w (codes "CX")) terms.Cx _ refl h in
    let a1 = no_name (bytes_eq w (codes "OPENQASM")) terms.Openqasm _ refl a0.1 in
    let a2 = no_name (bytes_eq w (codes "opaque") || bytes_eq w (codes "U")) terms.Opaque _ refl a1.1 in
    let a3 = no_name (is_reserved w) terms.OtherWord _ refl a2.1 in
    let begun = has_name (starts_name (slice_index w 0)) _ terms.OtherWord refl a3.1 in
    let b0 = no_name (bytes_eq w (codes "include")) terms.Include _ refl begun.1 in
    let b1 = no_name (bytes_eq w (codes "qreg")) terms.Qreg _ refl b0.1 in
    let b2 = no_name (bytes_eq w (codes "creg")) terms.Creg _ refl b1.1 in
    let b3 = no_name (bytes_eq w (codes "gate")) terms.Gate _ refl b2.1 in
    let b4 = no_name (bytes_eq w (codes "measure")) terms.Measure _ refl b3.1 in
    let b5 = no_name (bytes_eq w (codes "barrier")) terms.Barrier _ refl b4.1 in
    let b6 = no_name (bytes_eq w (codes "reset")) terms.Reset _ refl b5.1 in
    let b7 = no_name (bytes_eq w (codes "if")) terms.If _ refl b6.1 in
    let none = no_keyword w (record {
      opaque_word = (or_parts (bytes_eq w (codes "opaque")) (bytes_eq w (codes "U")) a2.0).0;
      reserved = a3.0;
      include_word = b0.0;
      qreg_word = b1.0;
      creg_word = b2.0;
      gate_word = b3.0;
      measure_word = b4.0;
      barrier_word = b5.0;
      reset_word = b6.0;
      if_word = b7.0;
    }) in
    and_from (begins_as_name w && list_all is_word_byte w) (not (is_keyword w))
    (and_from (begins_as_name w) (list_all is_word_byte w) (name_begins w begun.0) (word_bytes w bytes))
    (not_from_false (is_keyword w) none)

name_spelled : (included : Bool) (kind : TokenKind) (bs : List ℕ) → fits (kind_terminal included kind bs) terms.Name ≡ true → WordBytes kind bs → IsTrue (is_name bs)
unfolding kind_terminal
name_spelled included token_kinds.Word bs e w = name_word included bs e w
name_spelled included token_kinds.Whole bs e w = contradicted (fits terms.Whole terms.Name) refl e
name_spelled included token_kinds.Real bs e w = contradicted (fits (real_terminal bs) terms.Name) (neither (bytes_eq bs (codes "2.0")) terms.Two terms.Other refl refl) e
name_spelled included token_kinds.Quoted bs e w = contradicted (fits (quoted_terminal bs) terms.Name) (neither (bytes_eq bs (codes "\"qelib1.inc\"")) terms.Qelib terms.Quoted refl refl) e
name_spelled included token_kinds.Symbol bs e w = contradicted (fits (symbol_terminal bs) terms.Name) (symbol_nameless bs) e

-- the token at a place is a name, which stands in the text
record IsNameAt (x : Lexed) (at : ℕ) : Type 0 where
  name : IsTrue (is_name (word_at x at))
  span : slice_range x.text (start_of x at) (end_of x at) ≡ word_at x at

word_is : (x : Lexed) (at : ℕ) (t : Token) → slice_get x.tokens at ≡ Some t → word_at x at ≡ slice_range x.text t.start t.end
word_is x at t e = ap (λ (o : Option Token). elim o [ None ↦ [] | Some u ↦ slice_range x.text u.start u.end ]) e

name_at : (x : Lexed) (included : Bool) (at : ℕ) → AreRead x → Stands terms.Name (terminals x included) at → IsNameAt x at
unfolding terminal_of
name_at x included at read stands =
    let found = token_of (terminal_of included x.text) x.tokens at stands.0 stands.1 in
    let t = found.0 in
    let fit : fits (terminal_of included x.text t) terms.Name ≡ true = subst (λ u. fits u terms.Name ≡ true) (sym found.2) stands.2 in
    let its = word_is x at t found.1 in
    let begin = start_is x at t found.1 in
    let end = end_is x at t found.1 in
    let P : List ℕ → Type 0 = λ w. IsTrue (is_name w) in
    record {
      name = subst P (sym its) (name_spelled included t.kind (slice_range x.text t.start t.end) fit (read.wordy at t found.1));
      span = rw (begin, end) (sym its);
    }

-- ---- names that are declared

-- each register's name is among these
abbrev AreAmong : List (List ℕ) → List Register → Type 0
AreAmong names [] = Unit {0}
AreAmong names (r ∷ rs) = (list_any (bytes_eq r.name) names ≡ true) × AreAmong names rs

more_names : (names more : List (List ℕ)) (rs : List Register) → AreAmong names rs → AreAmong (names ++ more) rs
more_names names more [] h = tt
more_names names more (r ∷ rs) h = (list_any-append (bytes_eq r.name) names more ∙ or_left (list_any (bytes_eq r.name) names) (list_any (bytes_eq r.name) more) h.0, more_names names more rs h.1)

one_more : (names : List (List ℕ)) (rs : List Register) (r : Register) → AreAmong names rs → list_any (bytes_eq r.name) names ≡ true → AreAmong names (rs ++ r ∷ [])
one_more names [] r h e = (e, tt)
one_more names (x ∷ xs) r h e = (h.0, one_more names xs r h.1 e)

its_own : (names : List (List ℕ)) (name : List ℕ) → list_any (bytes_eq name) (names ++ name ∷ []) ≡ true
its_own names name = list_any-append (bytes_eq name) names (name ∷ []) ∙ or_right (list_any (bytes_eq name) names) (list_any (bytes_eq name) (name ∷ [])) (or_left (bytes_eq name name) false ((bytes_eq-Decides name name).1 refl))

place_below : (p : List ℕ → Bool) (names : List (List ℕ)) → list_any p names ≡ true → position_or_len p names < length names
place_below p [] h = absurd (false≢true h)
place_below p (n ∷ ns) h = by_first (p n) (λ e. place_below p ns e) h
  where
    by_first : (b : Bool) → (list_any p ns ≡ true → position_or_len p ns < length ns) → b || list_any p ns ≡ true → cond (not b) (1 + position_or_len p ns) 0 < length (n ∷ ns)
    by_first true later e = omega arith
    by_first false later e = let l = later e in omega arith

unplaced : (names : List (List ℕ)) (name : List ℕ) → is_some (place_of names name) ≡ false → list_any (bytes_eq name) names ≡ false
unplaced names name h = by_any (list_any (bytes_eq name) names) refl
  where
    by_any : (b : Bool) → list_any (bytes_eq name) names ≡ b → b ≡ false
    by_any false e = refl
    by_any true e =
        let there : nat_lt (position_or_len (bytes_eq name) names) (length names) ≡ true = lt-ltb _ _ (place_below (bytes_eq name) names e) in
        absurd (false≢true (sym h ∙ rw there refl))

unnamed : (names : List (List ℕ)) (rs : List Register) (name : List ℕ) → AreAmong names rs → list_any (bytes_eq name) names ≡ false → named rs name ≡ None
unnamed names [] name h e = refl
unnamed names (r ∷ rs) name h e = by_test (bytes_eq r.name name) refl (unnamed names rs name h.1 e)
  where
    by_test : (b : Bool) → bytes_eq r.name name ≡ b → named rs name ≡ None → cond b (Some r) (named rs name) ≡ None
    by_test false d f = f
    by_test true d f =
        let same : r.name ≡ name = (bytes_eq-Decides r.name name).0 d in
        absurd (false≢true (sym e ∙ ap (λ n. list_any (bytes_eq n) names) (sym same) ∙ h.0))

-- ---- what the statements make known

abbrev pub SmallStatement : Statement → Type 0
SmallStatement (statements.Call line gate args) = Unit {0}
SmallStatement (statements.Measure line from to) = Unit {0}
SmallStatement (statements.Barrier line) = Unit {0}
SmallStatement (statements.Reset line arg) = Unit {0}
SmallStatement (statements.If line first size value gate arg) = value < 2 ^ 32

abbrev registers_of : Lexed → Known → List Register
registers_of x k = map (register_in x.text) k.tree.classical

record Tells (x : Lexed) (k : Known) : Type 0 where
  declared : AreDeclared [] (registers_of x k)
  bits : k.bits ≡ bits_in (registers_of x k)
  among : AreAmong k.names (registers_of x k)
  small : ByRecursion SmallStatement k.tree.statements

number_small : (x : Lexed) (at : ℕ) → number_at x at < 2 ^ 32
number_small x at = by_test (is_whole (word_at x at)) refl
  where
    by_test : (b : Bool) → is_whole (word_at x at) ≡ b → cond b (digits_value 10 (word_at x at)) 0 < 2 ^ 32
    by_test true e = word_small (word_at x at) e
    by_test false e = omega arith

statement_tells : (x : Lexed) (k : Known) (s : Statement) → Tells x k → SmallStatement s → Tells x (with_statement k s)
statement_tells x k s h small = record { declared = h.declared; bits = h.bits; among = h.among; small = both_parts SmallStatement k.tree.statements (s ∷ []) h.small (small, tt) }

-- a register is declared
record MayDeclare (x : Lexed) (k : Known) (name size : ℕ) : Type 0 where
  here : IsNameAt x name
  new : is_some (place_of k.names (word_at x name)) ≡ false
  some : 0 < size
  few : length k.tree.classical < 64
  room : k.bits + size ≤ 16384

classical_tells : (x : Lexed) (k : Known) (name size : ℕ) → Tells x k → MayDeclare x k name size → Tells x (with_classical x k name size)
classical_tells x k name size h m =
    let word = word_at x name in
    let rs = registers_of x k in
    let r : Register = register_in x.text (declared_at x name k.bits size) in
    let its : r.name ≡ word = m.here.span in
    let all : map (register_in x.text) (k.tree.classical ++ declared_at x name k.bits size ∷ []) ≡ rs ++ r ∷ [] = map-append (register_in x.text) k.tree.classical (declared_at x name k.bits size ∷ []) in
    let bits = h.bits in
    let few = m.few in
    let room = m.room in
    let long = length-map k.tree.classical (register_in x.text) in
    let N : List ℕ → Type 0 = λ w. IsTrue (is_name w) in
    let apart : named rs word ≡ None = unnamed k.names rs word h.among (unplaced k.names word m.new) in
    let next : IsNext rs r = record {
      name = subst N (sym its) m.here.name;
      few = omega arith;
      bits = omega arith;
      some = m.some;
      apart = ap (named rs) its ∙ apart;
      first = bits;
    } in
    let D : List Register → Type 0 = AreDeclared [] in
    let A : List Register → Type 0 = AreAmong (k.names ++ word ∷ []) in
    let more = bits_more rs r in
    record {
      declared = subst D (sym all) (declared_more [] rs r h.declared next);
      bits = ap (λ n. n + size) bits ∙ sym more ∙ ap bits_in (sym all);
      among = subst A (sym all) (one_more (k.names ++ word ∷ []) rs r (more_names k.names (word ∷ []) rs h.among) (ap (λ n. list_any (bytes_eq n) (k.names ++ word ∷ [])) its ∙ its_own k.names word));
      small = h.small;
    }

behind_tells : (x : Lexed) (k : Known) (at end : ℕ) (s : Sentence) → AreRead x → Tells x k → first_fault (faults_of x k at s) ≡ None → Spells (sentence_text s) (terminals x k.included) at end → Tells x (behind x k at s)
behind_tells x k at end sentences.Include read h e spelled = record { declared = h.declared; bits = h.bits; among = h.among; small = h.small }
behind_tells x k at end (sentences.Qreg name size) read h e spelled = record { declared = h.declared; bits = h.bits; among = more_names k.names (word_at x name ∷ []) (registers_of x k) h.among; small = h.small }
behind_tells x k at end (sentences.Creg name size) read h e spelled =
    let taken : Option Stop = broken faults.Declared (is_declared k (word_at x name)) name in
    let empty : Option Stop = broken faults.Sizes (number_at x size == 0) at in
    let limit : Option Stop = broken faults.TooMany (bits_pass k (number_at x size)) at in
    let fresh = unbroken faults.Declared (is_declared k (word_at x name)) name (behind_here taken (empty ∷ limit ∷ []) e) in
    let rest = behind_rest taken (empty ∷ limit ∷ []) e in
    let sized = unbroken faults.Sizes (number_at x size == 0) at (behind_here empty (limit ∷ []) rest) in
    let last = unbroken faults.TooMany (bits_pass k (number_at x size)) at (behind_here limit [] (behind_rest empty (limit ∷ []) rest)) in
    classical_tells x k name (number_at x size) h (record {
      here = name_at x k.included name read (subst (Stands terms.Name (terminals x k.included)) (sym spelled.1.0.1) spelled.1.0.0);
      new = (or_parts (is_some (place_of k.names (word_at x name))) _ fresh).0;
      some = (let other = eqb-false (number_at x size) 0 sized in omega arith);
      few = few_before (length k.tree.classical) (nat_lt 16384 (k.bits + number_at x size)) last;
      room = ltb-false 16384 (k.bits + number_at x size) (or_parts (nat_le 64 (length k.tree.classical)) (nat_lt 16384 (k.bits + number_at x size)) last).1;
    })
behind_tells x k at end (sentences.Gate name brackets formals body) read h e spelled = record { declared = h.declared; bits = h.bits; among = more_names k.names (word_at x name ∷ []) (registers_of x k) h.among; small = h.small }
behind_tells x k at end (sentences.Call c) read h e spelled = statement_tells x k _ h tt
behind_tells x k at end (sentences.If register value c) read h e spelled = statement_tells x k _ h (number_small x value)
behind_tells x k at end (sentences.Cx args) read h e spelled = statement_tells x k _ h tt
behind_tells x k at end (sentences.Measure from to) read h e spelled = statement_tells x k _ h tt
behind_tells x k at end (sentences.Barrier args) read h e spelled = statement_tells x k _ h tt
behind_tells x k at end (sentences.Reset a) read h e spelled = statement_tells x k _ h tt

continues_tells : (x : Lexed) (k : Known) (at : ℕ) (r : Result Known Stop) → AreRead x → Continues x k at r → Tells x k → (final : Known) → r ≡ Ok final → Tells x final
continues_tells x _ _ _ read (ends k) h final e = let same : k ≡ final = cc in subst (Tells x) same h
continues_tells x _ _ _ read (stops k at stop refused) h final e = absurd (cc)
continues_tells x _ _ _ read (breaks k at end s stop readed spelled fault) h final e = absurd (cc)
continues_tells x _ _ _ read (goes_on k next at end s r readed spelled went rest) h final e =
    let both = unless_ok (first_fault (faults_of x k at s)) (behind x k at s) next went in
    continues_tells x next end r read rest (subst (Tells x) both.1 (behind_tells x k at end s read h both.0 spelled)) final e

behind_version : (x : Lexed) (start : Result ℕ Stop) (final : Known) → AreRead x → Behind x start (Ok final) → Tells x final
behind_version x (Ok at) final read reading = continues_tells x nothing_known at (Ok final) read reading (record { declared = tt; bits = refl; among = tt; small = tt }) final refl
behind_version x (Err stop) final read reading = absurd (cc)

-- what a tree tells of its registers and statements
pub record TreeTells (text : List ℕ) (tree : Tree) : Type 0 where
  pub declared : AreDeclared [] (map (register_in text) tree.classical)
  pub small : ByRecursion SmallStatement tree.statements

pub tree_tells : (text : List ℕ) (tree : Tree) → ((tokens : List Token) → tokens_of text ≡ Ok tokens → (k : ℕ) (t : Token) → slice_get tokens k ≡ Some t → IsPlaced text t) → IsTreeOf text tree → TreeTells text tree
tree_tells text tree placed made =
    let x : Lexed = record { text = text; tokens = made.tokens } in
    let read : AreRead x = record { placed = placed made.tokens made.lexed; wordy = wordy text made.tokens made.lexed } in
    let h = behind_version x (told (reads one_version (terminals x false) 0)) made.parsed.known read made.parsed.reading in
    subst (TreeTells text) made.parsed.same (record { declared = h.declared; small = h.small })
