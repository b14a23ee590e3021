-- A text has a tree or a fault, one alone.
use Rattle.std.proofs.Common.{◌≡◌, ℕ, false, List, length, drop, Result, Ok, Err, refl, sym, ap, subst, ◌∙◌, arith}
use Rattle.std.proofs.lemmas.List.{length-map}
use Rattle.qasm_lex.specs.declared.Token.{Token}
use Rattle.qasm_lex.specs.declared.fault.FaultKind.{FaultKind}
use Rattle.qasm_parse.specs.declared.stop.Stop.{Stop}
use Rattle.qasm_grammar.specs.declared.spoken.Sentence.{Sentence}
use Rattle.qasm_grammar.specs.declared.terminal.Terminal.{Terminal}
use Rattle.qasm_parse.specs.declared.known.Known.{Known}
use Rattle.qasm_parse.specs.declared.tree.Tree.{Tree}
use Rattle.qasm_parse.specs.Words.{terminal_of, line_at}
use Rattle.qasm_grammar.specs.Forms.{reads}
use Rattle.qasm_grammar.specs.Grammar.{one_version, one_statement}
use Rattle.qasm_grammar.specs.Spelling.{Spells, sentence_text}
use Rattle.qasm_parse.specs.Lexed.{Lexed}
use Rattle.qasm_parse.specs.Refused.{told}
use Rattle.qasm_parse.specs.Known.{nothing_known}
use Rattle.qasm_parse.specs.Pass.{terminals, tried, Refuses, Continues, Behind, Reading, HasTree, HasFault}
use Rattle.qasm_parse.specs.Pass.Continues.{ends, stops, breaks, goes_on}
use Rattle.qasm_grammar.proofs.Laws.{law_one_sentence, law_some_sentence}

-- no statement is read where no token is left
not_read : (x : Lexed) (k : Known) (at end : ℕ) → at ≡ length x.tokens → reads one_statement (drop at (terminals x k.included)) at ≡ Ok end → ⊥
not_read x k at end e r =
    let s = law_some_sentence (terminals x k.included) at end r in
    omega (arith, e, s.2, s.3, length-map x.tokens (terminal_of k.included x.text))

-- statements that the same tokens spell are tried alike
tried_one : (s u : Sentence) (x : Lexed) (k : Known) (found : List Terminal) (at m n : ℕ) → Spells (sentence_text s) found at m → Spells (sentence_text u) found at n → tried x k at s ≡ tried x k at u
tried_one s u x k found at m n p q = ap (tried x k at) (law_one_sentence s u found at m n p q).0

-- at the end of the tokens reading gives what is known
at_the_end : (x : Lexed) (k : Known) (at : ℕ) (r : Result Known Stop) → Continues x k at r → at ≡ length x.tokens → Ok k ≡ r
at_the_end x _ _ _ (ends k) e = refl
at_the_end x _ _ _ (stops k at stop h) e = absurd (omega (arith, h.0, e))
at_the_end x _ _ _ (breaks k at end s stop h spelled t) e = absurd (not_read x k at end e h)
at_the_end x _ _ _ (goes_on k next at end s r h spelled t on) e = absurd (not_read x k at end e h)

-- where tokens are refused, that is the fault
at_a_stop : (x : Lexed) (k : Known) (at : ℕ) (r : Result Known Stop) → Continues x k at r → (stop : Stop) → Refuses x k at stop → Err stop ≡ r
at_a_stop x _ _ _ (ends k) stop w = absurd (omega (arith, w.0))
at_a_stop x _ _ _ (stops k at other h) stop w = (let e = sym w.1 ∙ h.1 in cc)
at_a_stop x _ _ _ (breaks k at end s other h spelled t) stop w = (let e = sym w.1 ∙ ap told h in cc)
at_a_stop x _ _ _ (goes_on k next at end s r h spelled t on) stop w = (let e = sym w.1 ∙ ap told h in cc)

-- where a statement breaks a rule, that is the fault
at_a_break : (x : Lexed) (k : Known) (at : ℕ) (r : Result Known Stop) → Continues x k at r → (end : ℕ) (u : Sentence) (stop : Stop) → reads one_statement (drop at (terminals x k.included)) at ≡ Ok end
    → Spells (sentence_text u) (terminals x k.included) at end → tried x k at u ≡ Err stop → Err stop ≡ r
at_a_break x _ _ _ (ends k) end u stop w spells v = absurd (not_read x k (length x.tokens) end refl w)
at_a_break x _ _ _ (stops k at other h) end u stop w spells v = (let e = sym (ap told w) ∙ h.1 in cc)
at_a_break x _ _ _ (breaks k at m s other h spelled t) end u stop w spells v = sym v ∙ tried_one u s x k (terminals x k.included) at end m spells spelled ∙ t
at_a_break x _ _ _ (goes_on k next at m s r h spelled t on) end u stop w spells v =
    let e = sym v ∙ tried_one u s x k (terminals x k.included) at end m spells spelled ∙ t in
    absurd (cc)

-- after a statement that breaks none reading goes on
behind_it : (x : Lexed) (k : Known) (at : ℕ) (r : Result Known Stop) → Continues x k at r → (end : ℕ) (u : Sentence) (next : Known) → reads one_statement (drop at (terminals x k.included)) at ≡ Ok end
    → Spells (sentence_text u) (terminals x k.included) at end → tried x k at u ≡ Ok next → Continues x next end r
behind_it x _ _ _ (ends k) end u next w spells v = absurd (not_read x k (length x.tokens) end refl w)
behind_it x _ _ _ (stops k at other h) end u next w spells v = absurd (let e = sym (ap told w) ∙ h.1 in cc)
behind_it x _ _ _ (breaks k at m s other h spelled t) end u next w spells v =
    absurd (let e = sym v ∙ tried_one u s x k (terminals x k.included) at end m spells spelled ∙ t in cc)
behind_it x _ _ _ (goes_on k other at m s r h spelled t on) end u next w spells v =
    let known = sym t ∙ tried_one s u x k (terminals x k.included) at m end spelled spells ∙ v in
    let place = sym h ∙ w in
    let same_known : other ≡ next = cc in
    let same_place : m ≡ end = cc in
    let P : Known → Type 0 = λ d. Continues x d m r in
    let Q : ℕ → Type 0 = λ i. Continues x next i r in
    subst Q same_place (subst P same_known on)

continues_one : (x : Lexed) (k : Known) (at : ℕ) (r : Result Known Stop) → Continues x k at r → (q : Result Known Stop) → Continues x k at q → r ≡ q
continues_one x _ _ _ (ends k) q d = at_the_end x k (length x.tokens) q d refl
continues_one x _ _ _ (stops k at stop h) q d = at_a_stop x k at q d stop h
continues_one x _ _ _ (breaks k at end s stop h spelled t) q d = at_a_break x k at q d end s stop h spelled t
continues_one x _ _ _ (goes_on k next at end s r h spelled t on) q d = continues_one x next end r on q (behind_it x k at q d end s next h spelled t)

-- reading a text from its tokens gives one thing alone
reading_one : (x : Lexed) (r q : Result Known Stop) → Reading x r → Reading x q → r ≡ q
reading_one x r q = from (told (reads one_version (terminals x false) 0))
  where
    from : (v : Result ℕ Stop) → Behind x v r → Behind x v q → r ≡ q
    from (Err stop) a b = a ∙ sym b
    from (Ok at) a b = continues_one x nothing_known at r a q b

abbrev lexed : List ℕ → List Token → Lexed
lexed text tokens = record { text = text; tokens = tokens }

pub one_tree : (text : List ℕ) (tokens : List Token) (t u : Tree) → HasTree text tokens t → HasTree text tokens u → t ≡ u
one_tree text tokens t u h k =
    let e = reading_one (lexed text tokens) (Ok h.known) (Ok k.known) h.reading k.reading in
    let same_known : h.known ≡ k.known = cc in
    sym h.same ∙ ap (λ (d : Known). d.tree) same_known ∙ k.same

pub tree_or_fault : (text : List ℕ) (tokens : List Token) (tree : Tree) (line : ℕ) (kind : FaultKind) → HasTree text tokens tree → HasFault text tokens line kind → ⊥
tree_or_fault text tokens tree line kind h k =
    let e = reading_one (lexed text tokens) (Ok h.known) (Err k.stop) h.reading k.reading in
    cc

pub one_fault : (text : List ℕ) (tokens : List Token) (line other : ℕ) (kind another : FaultKind) → HasFault text tokens line kind → HasFault text tokens other another → (line ≡ other) × (kind ≡ another)
one_fault text tokens line other kind another h k =
    let e = reading_one (lexed text tokens) (Err h.stop) (Err k.stop) h.reading k.reading in
    let s : h.stop ≡ k.stop = cc in
    (h.same_line ∙ ap (λ (stop : Stop). line_at text tokens stop.at) s ∙ sym k.same_line, h.same_kind ∙ ap (λ (stop : Stop). stop.kind) s ∙ sym k.same_kind)
