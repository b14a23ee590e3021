-- The names of a program's classical registers stand in its text, each on one line, and there are few of them.
use Rattle.std.proofs.Common.{◌≡◌, ℕ, zero, suc, ◌+◌, ◌<◌, ◌≤◌, Bool, true, false, IsTrue, ◌||◌, ◌==◌, cond, nat_lt, nat_le, List, [], ◌∷◌, length, map, slice_get, slice_range, Option, Some, None, Result, Ok, Err, refl, sym, subst, ◌∙◌, ap, arith}
use Rattle.std.specs.List.{list_all}
use Rattle.std.specs.Str.{bytes_eq}
use Rattle.std.specs.Prelude.{codes}
use Rattle.std.proofs.lemmas.Bool.{and_from, or_left}
use Rattle.std.proofs.lemmas.Bool.Decides.{nat_tests}
use Rattle.std.proofs.lemmas.List.{length_push}
use Rattle.std.proofs.lemmas.List.Elements.{All-nil, All-cons, All-append}
use Rattle.qasm_lex.specs.declared.TokenKind.{TokenKind}
use Rattle.qasm_lex.specs.declared.TokenKind.TheVariants as kinds
use Rattle.qasm_lex.specs.declared.Token.{Token}
use Rattle.qasm_lex.specs.declared.fault.FaultKind.{FaultKind}
use Rattle.qasm_lex.specs.declared.fault.FaultKind.TheVariants as faults
use Rattle.qasm_lex.specs.Forms.{IsToken}
use Rattle.qasm_lex.specs.Tokens.{IsPlaced, tokens_of, is_digit, starts_word, is_word_byte}
use Rattle.qasm_lex.proofs.Laws.{forms_of_kinds}
use Rattle.qasm_parse.specs.declared.stop.Stop.{Stop}
use Rattle.qasm_grammar.specs.declared.spoken.Sentence.{Sentence}
use Rattle.qasm_grammar.specs.declared.spoken.Sentence.TheVariants as sentences
use Rattle.qasm_grammar.specs.declared.terminal.Terminal.{Terminal}
use Rattle.qasm_grammar.specs.declared.terminal.Terminal.TheVariants as terms
use Rattle.qasm_parse.specs.declared.tree.Declared.{Declared}
use Rattle.qasm_parse.specs.declared.tree.Tree.{Tree}
use Rattle.qasm_parse.specs.declared.known.Known.{Known}
use Rattle.qasm_parse.specs.Lexed.{Lexed, word_at, number_at, start_of, end_of}
use Rattle.qasm_parse.specs.Refused.{told}
use Rattle.qasm_parse.specs.Words.{terminal_of, kind_terminal, real_terminal, quoted_terminal, symbol_terminal}
use Rattle.qasm_parse.specs.Forms.{fits, reads}
use Rattle.qasm_parse.specs.Grammar.{one_version}
use Rattle.qasm_parse.specs.Spelling.{Spells, Stands, sentence_text}
use Rattle.qasm_parse.specs.Known.{nothing_known, is_declared}
use Rattle.qasm_parse.specs.Faults.{broken, first_fault, bits_pass, faults as faults_of}
use Rattle.qasm_parse.specs.Behind.{declared_at, with_classical, behind}
use Rattle.qasm_parse.specs.Pass.Continues.{ends, stops, breaks, goes_on}
use Rattle.qasm_parse.specs.Pass.{Continues, Behind, terminals, unless}
use Rattle.rotation_list.specs.Items.{IsTreeOf}
use Rattle.rotation_list.specs.inside.Items.{HasNames, IsNamed}
use Rattle.rotation_list.proofs.OneLine.{IsOneLine-bytes}

-- ---- words have bytes of words alone

abbrev pub WordBytes : TokenKind → List ℕ → Type 0
WordBytes kinds.Word bs = list_all is_word_byte bs ≡ true
WordBytes kinds.Whole bs = Unit {0}
WordBytes kinds.Real bs = Unit {0}
WordBytes kinds.Quoted bs = Unit {0}
WordBytes kinds.Symbol bs = Unit {0}

begins_word : (b : ℕ) → starts_word b ≡ true → is_word_byte b ≡ true
unfolding is_word_byte
begins_word b h = or_left (starts_word b) (is_digit b) h

word_bytes : (kind : TokenKind) (bs : List ℕ) → IsToken kind bs → WordBytes kind bs
word_bytes kinds.Word [] h = absurd h
word_bytes kinds.Word (b ∷ bs) h = and_from (is_word_byte b) (list_all is_word_byte bs) (begins_word b h.0) h.1
word_bytes kinds.Whole bs h = tt
word_bytes kinds.Real bs h = tt
word_bytes kinds.Quoted bs h = tt
word_bytes kinds.Symbol bs h = tt

abbrev pub IsWordy : List ℕ → Token → Type 0
IsWordy text t = WordBytes t.kind (slice_range text t.start t.end)

abbrev pub AreWordy : List ℕ → List Token → Type 0
AreWordy text ts = (k : ℕ) (t : Token) → slice_get ts k ≡ Some t → IsWordy text t

pub wordy : (text : List ℕ) (ts : List Token) → tokens_of text ≡ Ok ts → AreWordy text ts
wordy text ts e k t h = word_bytes t.kind (slice_range text t.start t.end) (forms_of_kinds text ts e k t h)

-- ---- a name is a word

abbrev pub NoName : Terminal → Type 0
NoName t = fits t terms.Name ≡ false

pub neither : (b : Bool) (x y : Terminal) → NoName x → NoName y → NoName (cond b x y)
neither true x y p q = p
neither false x y p q = q

pub symbol_nameless : (bs : List ℕ) → NoName (symbol_terminal bs)
unfolding symbol_terminal
symbol_nameless bs =
    neither (bytes_eq bs (codes ";")) terms.Semicolon _ refl
    (neither (bytes_eq bs (codes ",")) terms.Comma _ refl
    (neither (bytes_eq bs (codes "(")) terms.Open _ refl
    (neither (bytes_eq bs (codes ")")) terms.Close _ refl
    (neither (bytes_eq bs (codes "[")) terms.OpenBracket _ refl
    (neither (bytes_eq bs (codes "]")) terms.CloseBracket _ refl
    (neither (bytes_eq bs (codes "{")) terms.OpenBrace _ refl
    (neither (bytes_eq bs (codes "}")) terms.CloseBrace _ refl
    (neither (bytes_eq bs (codes "->")) terms.Arrow _ refl
    (neither (bytes_eq bs (codes "==")) terms.Equals terms.Other refl refl)))))))))

pub contradicted : {X : Type 0} (b : Bool) → b ≡ false → b ≡ true → X
contradicted b d e = absurd (let t : true ≡ false = sym e ∙ d in cc)

name_bytes : (included : Bool) (kind : TokenKind) (bs : List ℕ) → fits (kind_terminal included kind bs) terms.Name ≡ true → WordBytes kind bs → list_all is_word_byte bs ≡ true
unfolding kind_terminal
name_bytes included kinds.Word bs e w = w
name_bytes included kinds.Whole bs e w = contradicted (fits terms.Whole terms.Name) refl e
name_bytes included kinds.Real bs e w = contradicted (fits (real_terminal bs) terms.Name) (neither (bytes_eq bs (codes "2.0")) terms.Two terms.Other refl refl) e
name_bytes included kinds.Quoted bs e w = contradicted (fits (quoted_terminal bs) terms.Name) (neither (bytes_eq bs (codes "\"qelib1.inc\"")) terms.Qelib terms.Quoted refl refl) e
name_bytes included kinds.Symbol bs e w = contradicted (fits (symbol_terminal bs) terms.Name) (symbol_nameless bs) e

-- ---- registers

pub token_of : {X Y : Type 0} (f : X → Y) (xs : List X) (k : ℕ) (y : Y) → slice_get (map f xs) k ≡ Some y → (x : X) × (slice_get xs k ≡ Some x) × (f x ≡ y)
token_of f [] k y e = absurd (cc)
token_of f (x ∷ xs) zero y e = (x, refl, cc)
token_of f (x ∷ xs) (suc k) y e = token_of f xs k y e

no_feed : is_word_byte 10 ≡ false
unfolding is_word_byte starts_word is_digit
no_feed = refl

-- each token stands in the text, and words have bytes of words alone
pub record AreRead (x : Lexed) : Type 0 where
  pub placed : (k : ℕ) (t : Token) → slice_get x.tokens k ≡ Some t → IsPlaced x.text t
  pub wordy : AreWordy x.text x.tokens

pub start_is : (x : Lexed) (name : ℕ) (t : Token) → slice_get x.tokens name ≡ Some t → start_of x name ≡ t.start
start_is x name t e = ap (λ (o : Option Token). elim o [ None ↦ 0 | Some u ↦ u.start ]) e

pub end_is : (x : Lexed) (name : ℕ) (t : Token) → slice_get x.tokens name ≡ Some t → end_of x name ≡ t.end
end_is x name t e = ap (λ (o : Option Token). elim o [ None ↦ 0 | Some u ↦ u.end ]) e

named_by : (text : List ℕ) (d : Declared) (t : Token) → d.start ≡ t.start → d.end ≡ t.end → IsPlaced text t → IsTrue (list_all is_word_byte (slice_range text t.start t.end)) → IsNamed text d
named_by text d t a b place bytes =
    let some : t.start < t.end = place.some in
    let within : t.end ≤ length text = place.within in
    record {
      ordered = omega arith;
      within = omega arith;
      one_line = rw (a, b) (IsOneLine-bytes is_word_byte no_feed (slice_range text t.start t.end) bytes);
    }

spelled_bytes : (text : List ℕ) (included : Bool) (t : Token) → fits (terminal_of included text t) terms.Name ≡ true → IsWordy text t → list_all is_word_byte (slice_range text t.start t.end) ≡ true
unfolding terminal_of
spelled_bytes text included t e w = name_bytes included t.kind (slice_range text t.start t.end) e w

named_at : (x : Lexed) (included : Bool) (name first size : ℕ) → AreRead x → Stands terms.Name (terminals x included) name → IsNamed x.text (declared_at x name first size)
named_at x included name first size read stands =
    let found = token_of (terminal_of included x.text) x.tokens name stands.0 stands.1 in
    let fit : fits (terminal_of included x.text found.0) terms.Name ≡ true = subst (λ u. fits u terms.Name ≡ true) (sym found.2) stands.2 in
    named_by x.text (declared_at x name first size) found.0 (start_is x name found.0 found.1) (end_is x name found.0 found.1) (read.placed name found.0 found.1) (spelled_bytes x.text included found.0 fit (read.wordy name found.0 found.1))

pub behind_here : (f : Option Stop) (fs : List (Option Stop)) → first_fault (f ∷ fs) ≡ None → f ≡ None
unfolding first_fault
behind_here None fs e = refl
behind_here (Some f) fs e = e

pub behind_rest : (f : Option Stop) (fs : List (Option Stop)) → first_fault (f ∷ fs) ≡ None → first_fault fs ≡ None
unfolding first_fault
behind_rest None fs e = e
behind_rest (Some f) fs e = absurd (cc)

pub unbroken : (kind : FaultKind) (b : Bool) (at : ℕ) → broken kind b at ≡ None → b ≡ false
unbroken kind true at e = absurd (cc)
unbroken kind false at e = refl

pub few_before : (n : ℕ) (other : Bool) → (nat_le 64 n || other) ≡ false → n < 64
few_before n other e = by_test (nat_le 64 n) refl e
  where
    by_test : (b : Bool) → nat_le 64 n ≡ b → (b || other) ≡ false → n < 64
    by_test true d f = absurd (cc)
    by_test false d f = grind (arith, nat_tests)

classical_more : (x : Lexed) (k : Known) (name size : ℕ) → AreRead x → HasNames x.text k.tree → length k.tree.classical < 64 → Stands terms.Name (terminals x k.included) name → HasNames x.text (with_classical x k name size).tree
classical_more x k name size read h few stands = record {
  few = (let more = length_push k.tree.classical (declared_at x name k.bits size) in omega arith);
  named = All-append (IsNamed x.text) k.tree.classical (declared_at x name k.bits size ∷ []) h.named (All-cons (IsNamed x.text) (declared_at x name k.bits size) [] (named_at x k.included name k.bits size read stands) (All-nil (IsNamed x.text)));
}

same_names : (text : List ℕ) (old new : Tree) → new.classical ≡ old.classical → HasNames text old → HasNames text new
same_names text old new e h = record { few = rw e h.few; named = rw e h.named }

behind_named : (x : Lexed) (k : Known) (at end : ℕ) (s : Sentence) → AreRead x → HasNames x.text k.tree → first_fault (faults_of x k at s) ≡ None → Spells (sentence_text s) (terminals x k.included) at end → HasNames x.text (behind x k at s).tree
behind_named x k at end sentences.Include read h e spelled = same_names x.text k.tree k.tree refl h
behind_named x k at end (sentences.Qreg name size) read h e spelled = same_names x.text k.tree (behind x k at (sentences.Qreg name size)).tree refl h
behind_named x k at end (sentences.Creg name size) read h e spelled =
    let taken : Option Stop = broken faults.Declared (is_declared k (word_at x name)) name in
    let empty : Option Stop = broken faults.Sizes (number_at x size == 0) at in
    let limit : Option Stop = broken faults.TooMany (bits_pass k (number_at x size)) at in
    let last = behind_here limit [] (behind_rest empty (limit ∷ []) (behind_rest taken (empty ∷ limit ∷ []) e)) in
    let few = few_before (length k.tree.classical) (nat_lt 16384 (k.bits + number_at x size)) (unbroken faults.TooMany (bits_pass k (number_at x size)) at last) in
    classical_more x k name (number_at x size) read h few (subst (Stands terms.Name (terminals x k.included)) (sym spelled.1.0.1) spelled.1.0.0)
behind_named x k at end (sentences.Gate name brackets formals body) read h e spelled = same_names x.text k.tree (behind x k at (sentences.Gate name brackets formals body)).tree refl h
behind_named x k at end (sentences.Call c) read h e spelled = same_names x.text k.tree (behind x k at (sentences.Call c)).tree refl h
behind_named x k at end (sentences.If register value c) read h e spelled = same_names x.text k.tree (behind x k at (sentences.If register value c)).tree refl h
behind_named x k at end (sentences.Cx args) read h e spelled = same_names x.text k.tree (behind x k at (sentences.Cx args)).tree refl h
behind_named x k at end (sentences.Measure from to) read h e spelled = same_names x.text k.tree (behind x k at (sentences.Measure from to)).tree refl h
behind_named x k at end (sentences.Barrier args) read h e spelled = same_names x.text k.tree (behind x k at (sentences.Barrier args)).tree refl h
behind_named x k at end (sentences.Reset a) read h e spelled = same_names x.text k.tree (behind x k at (sentences.Reset a)).tree refl h

pub unless_ok : (o : Option Stop) (k next : Known) → unless o k ≡ Ok next → (o ≡ None) × (k ≡ next)
unless_ok None k next e = (refl, cc)
unless_ok (Some stop) k next e = absurd (cc)

continues_named : (x : Lexed) (k : Known) (at : ℕ) (r : Result Known Stop) → AreRead x → Continues x k at r → HasNames x.text k.tree → (final : Known) → r ≡ Ok final → HasNames x.text final.tree
continues_named x _ _ _ read (ends k) h final e = let same : k ≡ final = cc in subst (λ (n : Known). HasNames x.text n.tree) same h
continues_named x _ _ _ read (stops k at stop refused) h final e = absurd (cc)
continues_named x _ _ _ read (breaks k at end s stop readed spelled fault) h final e = absurd (cc)
continues_named x _ _ _ read (goes_on k next at end s r readed spelled went rest) h final e =
    let both = unless_ok (first_fault (faults_of x k at s)) (behind x k at s) next went in
    continues_named x next end r read rest (subst (λ (n : Known). HasNames x.text n.tree) both.1 (behind_named x k at end s read h both.0 spelled)) final e

behind_version : (x : Lexed) (start : Result ℕ Stop) (final : Known) → AreRead x → Behind x start (Ok final) → HasNames x.text final.tree
behind_version x (Ok at) final read reading = continues_named x nothing_known at (Ok final) read reading (record { few = omega arith; named = All-nil (IsNamed x.text) }) final refl
behind_version x (Err stop) final read reading = absurd (cc)

-- the places of tokens are known by a law of the lexer
pub tree_named : (text : List ℕ) (tree : Tree) → ((tokens : List Token) → tokens_of text ≡ Ok tokens → (k : ℕ) (t : Token) → slice_get tokens k ≡ Some t → IsPlaced text t) → IsTreeOf text tree → HasNames text tree
tree_named text tree placed made =
    let x : Lexed = record { text = text; tokens = made.tokens } in
    let read : AreRead x = record { placed = placed made.tokens made.lexed; wordy = wordy text made.tokens made.lexed } in
    subst (HasNames text) made.parsed.same (behind_version x (told (reads one_version (terminals x false) 0)) made.parsed.known read made.parsed.reading)
