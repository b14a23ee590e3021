-- A text stands for one circuit, or is refused with one fault, and not both.
use Rattle.std.proofs.Common.{◌≡◌, ◌⊎◌, ℕ, Bool, true, false, List, Some, None, Result, Ok, Err, refl, sym, subst, ◌∙◌, ap, inl, inr}
use Rattle.std.specs.Prelude.{MatchResult, IfOk, IfErr}
use Rattle.source_model.specs.declared.Circuit.{Circuit}
use Rattle.qasm_lex.specs.declared.Token.{Token}
use Rattle.qasm_lex.specs.declared.fault.FaultKind.{FaultKind}
use Rattle.qasm_lex.specs.declared.fault.FaultKind.TheVariants.{TooMany}
use Rattle.qasm_lex.specs.declared.fault.CircuitFault.{CircuitFault}
use Rattle.qasm_lex.specs.declared.fault.CircuitFault.TheVariants as fault
use Rattle.qasm_lex.specs.Tokens.{tokens_of}
use Rattle.qasm_parse.specs.declared.tree.Tree.{Tree}
use Rattle.qasm_parse.specs.Pass.{HasTree, HasFault}
use Rattle.qasm_expand.specs.Limits.{passing}
use Rattle.product_list.specs.ListText.{list_circuit}
use Rattle.rotation_list.specs.Items.{IsTreeOf, IsProgram, circuit_of}
use Rattle.rotation_list.specs.Texts.{IsFaulty, IsRefused, StandsFor, is_list}
use Rattle.rotation_list.specs.Texts.IsFaulty.{untokened, untreed, unbounded}

-- what the parser's laws say
pub record OneReading : Type 0 where
  pub one : (text : List ℕ) (tokens : List Token) (t u : Tree) → HasTree text tokens t → HasTree text tokens u → t ≡ u
  pub apart : (text : List ℕ) (tokens : List Token) (tree : Tree) (line : ℕ) (kind : FaultKind) → HasTree text tokens tree → HasFault text tokens line kind → ⊥
  pub one_fault : (text : List ℕ) (tokens : List Token) (line other : ℕ) (kind another : FaultKind) → HasFault text tokens line kind → HasFault text tokens other another → (line ≡ other) × (kind ≡ another)

same_ok : {X E : Type 0} (r : Result X E) (x y : X) → r ≡ Ok x → r ≡ Ok y → x ≡ y
same_ok r x y d e = let k = sym d ∙ e in cc

same_err : {X E : Type 0} (r : Result X E) (x y : E) → r ≡ Err x → r ≡ Err y → x ≡ y
same_err r x y d e = let k = sym d ∙ e in cc

not_both : {X E : Type 0} (r : Result X E) (x : X) (e : E) → r ≡ Ok x → r ≡ Err e → ⊥
not_both r x e d f = let k = sym d ∙ f in absurd (cc)

neither_way : (b : Bool) → b ≡ true → b ≡ false → ⊥
neither_way b d e = let k : true ≡ false = sym d ∙ e in absurd (cc)

one_made : OneReading → (text : List ℕ) (t u : Tree) → IsTreeOf text t → IsTreeOf text u → t ≡ u
one_made laws text t u h k =
    let same : h.tokens ≡ k.tokens = same_ok (tokens_of text) h.tokens k.tokens h.lexed k.lexed in
    laws.one text k.tokens t u (subst (λ ts. HasTree text ts t) same h.parsed) k.parsed

pub one_circuit : OneReading → (text : List ℕ) (c d : Circuit) → StandsFor text c → StandsFor text d → c ≡ d
one_circuit laws text c d (inl h) (inl k) = same_ok (list_circuit text) c d h.1 k.1
one_circuit laws text c d (inl h) (inr k) = absurd (neither_way (is_list text) h.0 k.0)
one_circuit laws text c d (inr h) (inl k) = absurd (neither_way (is_list text) k.0 h.0)
one_circuit laws text c d (inr h) (inr k) =
    let p = h.1 in
    let q = k.1 in
    p.2 ∙ (ap (circuit_of text) (one_made laws text p.0 q.0 p.1.made q.1.made) ∙ sym q.2)

program_faultless : OneReading → (text : List ℕ) (tree : Tree) (line : ℕ) (kind : FaultKind) → IsProgram text tree → IsFaulty text line kind → ⊥
program_faultless laws text tree _ _ h (untokened line kind e) = not_both (tokens_of text) h.made.tokens (fault.At line kind) h.made.lexed e
program_faultless laws text tree _ _ h (untreed tokens line kind lexed e) =
    let same : h.made.tokens ≡ tokens = same_ok (tokens_of text) h.made.tokens tokens h.made.lexed lexed in
    laws.apart text tokens tree line kind (subst (λ ts. HasTree text ts tree) same h.made.parsed) e
program_faultless laws text tree _ _ h (unbounded other line made e) =
    let same : tree ≡ other = one_made laws text tree other h.made made in
    let none : passing other ≡ None = sym (ap passing same) ∙ h.within in
    let k : None ≡ Some line = sym none ∙ e in absurd (cc)

pub circuit_or_fault : OneReading → (text : List ℕ) (c : Circuit) (f : CircuitFault) → StandsFor text c → IsRefused text f → ⊥
circuit_or_fault laws text c fault.Memory h k = k
circuit_or_fault laws text c (fault.At line kind) (inl h) (inl k) = not_both (list_circuit text) c (fault.At line kind) h.1 k.1
circuit_or_fault laws text c (fault.At line kind) (inl h) (inr k) = neither_way (is_list text) h.0 k.0
circuit_or_fault laws text c (fault.At line kind) (inr h) (inl k) = neither_way (is_list text) k.0 h.0
circuit_or_fault laws text c (fault.At line kind) (inr h) (inr k) = program_faultless laws text h.1.0 line kind h.1.1 k.1

abbrev Same : ℕ → FaultKind → ℕ → FaultKind → Type 0
Same line kind other another = fault.At line kind ≡ fault.At other another

two_same : (line other : ℕ) (kind another : FaultKind) → line ≡ other → kind ≡ another → Same line kind other another
two_same line other kind another d e = cc

one_faulty : OneReading → (text : List ℕ) (line other : ℕ) (kind another : FaultKind) → IsFaulty text line kind → IsFaulty text other another → Same line kind other another
one_faulty laws text _ _ _ _ (untokened line kind e) (untokened other another f) = same_err (tokens_of text) (fault.At line kind) (fault.At other another) e f
one_faulty laws text _ _ _ _ (untokened line kind e) (untreed tokens other another lexed f) = absurd (not_both (tokens_of text) tokens (fault.At line kind) lexed e)
one_faulty laws text _ _ _ _ (untokened line kind e) (unbounded tree other made f) = absurd (not_both (tokens_of text) made.tokens (fault.At line kind) made.lexed e)
one_faulty laws text _ _ _ _ (untreed tokens line kind lexed e) (untokened other another f) = absurd (not_both (tokens_of text) tokens (fault.At other another) lexed f)
one_faulty laws text _ _ _ _ (untreed tokens line kind lexed e) (untreed others other another lexed' f) =
    let same : tokens ≡ others = same_ok (tokens_of text) tokens others lexed lexed' in
    let both = laws.one_fault text others line other kind another (subst (λ ts. HasFault text ts line kind) same e) f in
    two_same line other kind another both.0 both.1
one_faulty laws text _ _ _ _ (untreed tokens line kind lexed e) (unbounded tree other made f) =
    let same : made.tokens ≡ tokens = same_ok (tokens_of text) made.tokens tokens made.lexed lexed in
    absurd (laws.apart text tokens tree line kind (subst (λ ts. HasTree text ts tree) same made.parsed) e)
one_faulty laws text _ _ _ _ (unbounded tree line made e) (untokened other another f) = absurd (not_both (tokens_of text) made.tokens (fault.At other another) made.lexed f)
one_faulty laws text _ _ _ _ (unbounded tree line made e) (untreed tokens other another lexed f) =
    let same : made.tokens ≡ tokens = same_ok (tokens_of text) made.tokens tokens made.lexed lexed in
    absurd (laws.apart text tokens tree other another (subst (λ ts. HasTree text ts tree) same made.parsed) f)
one_faulty laws text _ _ _ _ (unbounded tree line made e) (unbounded others other made' f) =
    let same : tree ≡ others = one_made laws text tree others made made' in
    let k : Some line ≡ Some other = sym e ∙ (ap passing same ∙ f) in
    two_same line other TooMany TooMany (let l : line ≡ other = cc in l) refl

pub one_refusal : OneReading → (text : List ℕ) (f g : CircuitFault) → IsRefused text f → IsRefused text g → f ≡ g
one_refusal laws text fault.Memory g h k = absurd h
one_refusal laws text (fault.At line kind) fault.Memory h k = absurd k
one_refusal laws text (fault.At line kind) (fault.At other another) (inl h) (inl k) = same_err (list_circuit text) (fault.At line kind) (fault.At other another) h.1 k.1
one_refusal laws text (fault.At line kind) (fault.At other another) (inl h) (inr k) = absurd (neither_way (is_list text) h.0 k.0)
one_refusal laws text (fault.At line kind) (fault.At other another) (inr h) (inl k) = absurd (neither_way (is_list text) k.0 h.0)
one_refusal laws text (fault.At line kind) (fault.At other another) (inr h) (inr k) = one_faulty laws text line other kind another h.1 k.1

-- what is answered where a text stands for a circuit, and where it is refused
abbrev Refusal : List ℕ → CircuitFault → Type 0
Refusal text f = (f ≡ fault.Memory) ⊎ IsRefused text f

pub exact_for : (text : List ℕ) (r : Result Circuit CircuitFault) → ((c d : Circuit) → StandsFor text c → StandsFor text d → c ≡ d) → ((c : Circuit) (f : CircuitFault) → StandsFor text c → IsRefused text f → ⊥) → MatchResult r (StandsFor text) (Refusal text) → (c : Circuit) → StandsFor text c → MatchResult r (λ d. d ≡ c) (λ f. f ≡ fault.Memory)
exact_for text (Ok d) one apart h c k = one d c h k
exact_for text (Err f) one apart (inl h) c k = h
exact_for text (Err f) one apart (inr h) c k = absurd (apart c f k h)

pub faults_for : (text : List ℕ) (r : Result Circuit CircuitFault) → ((c : Circuit) (f : CircuitFault) → StandsFor text c → IsRefused text f → ⊥) → ((f g : CircuitFault) → IsRefused text f → IsRefused text g → f ≡ g) → MatchResult r (StandsFor text) (Refusal text) → (f : CircuitFault) → IsRefused text f → MatchResult r (λ d. ⊥) (λ e. (e ≡ f) ⊎ (e ≡ fault.Memory))
faults_for text (Ok d) apart one h f k = apart d f h k
faults_for text (Err e) apart one (inl h) f k = inr h
faults_for text (Err e) apart one (inr h) f k = inl (one e f h k)

pub either_way : (text : List ℕ) (r : Result Circuit CircuitFault) → IfOk r (StandsFor text) → IfErr r (Refusal text) → MatchResult r (StandsFor text) (Refusal text)
either_way text (Ok c) h k = h
either_way text (Err f) h k = k
