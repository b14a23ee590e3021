-- A text stands for one circuit at most, or is refused with one fault at most, and not both.
use Rattle.std.proofs.Common.{◌≡◌, ◌⊎◌, ℕ, List, ap, ap₂, sym, ◌∙◌, subst, inl, inr}
use Rattle.std.proofs.lemmas.Bool.{true≢false}
use Rattle.source_model.specs.declared.Circuit.{Circuit}
use Rattle.qasm_lex.specs.declared.Token.{Token}
use Rattle.qasm_lex.specs.declared.fault.FaultKind.{FaultKind}
use Rattle.qasm_lex.specs.declared.fault.CircuitFault.{CircuitFault}
use Rattle.qasm_lex.specs.declared.fault.CircuitFault.TheVariants as fault
use Rattle.qasm_parse.specs.declared.tree.Tree.{Tree}
use Rattle.qasm_parse.specs.Pass.{HasTree, HasFault}
use Rattle.rotation_list.specs.Items.{IsProgram, IsTreeOf, circuit_of}
use Rattle.rotation_list.specs.Texts.{StandsFor, IsRefused, IsFaulty, IsProgramOf, untokened, untreed, unbounded}

-- tokens have one tree at most, or one fault at most, and not both
pub record Laws : Type 0 where
  pub one_tree : (text : List ℕ) (tokens : List Token) (t u : Tree) → HasTree text tokens t → HasTree text tokens u → t ≡ u
  pub tree_or_fault : (text : List ℕ) (tokens : List Token) (tree : Tree) (line : ℕ) (kind : FaultKind) → HasTree text tokens tree → HasFault text tokens line kind → ⊥
  pub one_fault : (text : List ℕ) (tokens : List Token) (line other : ℕ) (kind another : FaultKind) → HasFault text tokens line kind → HasFault text tokens other another → (line ≡ other) × (kind ≡ another)

module _ (laws : Laws) (text : List ℕ) where
  same_tree : (t u : Tree) → IsTreeOf text t → IsTreeOf text u → t ≡ u
  same_tree t u x y =
      let a = x.lexed in let b = y.lexed in
      let same : x.tokens ≡ y.tokens = cc in
      laws.one_tree text y.tokens t u (subst (λ (ts : List Token). HasTree text ts t) same x.parsed) y.parsed

  one_program : (c d : Circuit) → IsProgramOf text c → IsProgramOf text d → c ≡ d
  one_program c d (t, p, e) (u, q, f) = e ∙ ap (circuit_of text) (same_tree t u p.made q.made) ∙ sym f

  pub stands_once : (c d : Circuit) → StandsFor text c → StandsFor text d → c ≡ d
  stands_once c d (inl (is, e)) (inl (js, f)) = cc
  stands_once c d (inl (is, e)) (inr (js, f)) = absurd (true≢false (sym is ∙ js))
  stands_once c d (inr (is, e)) (inl (js, f)) = absurd (true≢false (sym js ∙ is))
  stands_once c d (inr (is, e)) (inr (js, f)) = one_program c d e f

  sound_program : (t : Tree) (line : ℕ) (kind : FaultKind) → IsProgram text t → IsFaulty text line kind → ⊥
  sound_program t _ _ p (untokened line kind e) = let a = p.made.lexed in cc
  sound_program t _ _ p (untreed tokens line kind e h) =
      let a = p.made.lexed in
      let same : p.made.tokens ≡ tokens = cc in
      laws.tree_or_fault text tokens t line kind (subst (λ (ts : List Token). HasTree text ts t) same p.made.parsed) h
  sound_program t _ _ p (unbounded u line made e) = let a = p.within in let same = same_tree t u p.made made in cc

  pub stands_refused : (c : Circuit) (f : CircuitFault) → StandsFor text c → IsRefused text f → ⊥
  stands_refused c fault.Memory s r = r
  stands_refused c (fault.At line kind) (inl (is, e)) (inl (js, f)) = cc
  stands_refused c (fault.At line kind) (inl (is, e)) (inr (js, f)) = true≢false (sym is ∙ js)
  stands_refused c (fault.At line kind) (inr (is, e)) (inl (js, f)) = true≢false (sym js ∙ is)
  stands_refused c (fault.At line kind) (inr (is, (t, p, e))) (inr (js, f)) = sound_program t line kind p f

  tree_unfaulty : (t : Tree) (tokens : List Token) (line : ℕ) (kind : FaultKind) (x : IsTreeOf text t) → x.tokens ≡ tokens → HasFault text tokens line kind → ⊥
  tree_unfaulty t tokens line kind x same h = laws.tree_or_fault text tokens t line kind (subst (λ (ts : List Token). HasTree text ts t) same x.parsed) h

  faulty_once : (line other : ℕ) (kind another : FaultKind) → IsFaulty text line kind → IsFaulty text other another → fault.At line kind ≡ fault.At other another
  faulty_once _ _ _ _ (untokened l k e) (untokened m j f) = cc
  faulty_once _ _ _ _ (untokened l k e) (untreed ts m j f h) = absurd (cc)
  faulty_once _ _ _ _ (untokened l k e) (unbounded u m made f) = let a = made.lexed in absurd (cc)
  faulty_once _ _ _ _ (untreed ts l k e h) (untokened m j f) = absurd (cc)
  faulty_once _ _ _ _ (untreed ts l k e h) (untreed us m j f i) =
      let same : ts ≡ us = cc in
      let both = laws.one_fault text us l m k j (subst (λ (xs : List Token). HasFault text xs l k) same h) i in
      ap₂ fault.At both.0 both.1
  faulty_once _ _ _ _ (untreed ts l k e h) (unbounded u m made f) = let a = made.lexed in let same : made.tokens ≡ ts = cc in absurd (tree_unfaulty u ts l k made same h)
  faulty_once _ _ _ _ (unbounded t l made e) (untokened m j f) = let a = made.lexed in absurd (cc)
  faulty_once _ _ _ _ (unbounded t l made e) (untreed us m j f i) = let a = made.lexed in let same : made.tokens ≡ us = cc in absurd (tree_unfaulty t us m j made same i)
  faulty_once _ _ _ _ (unbounded t l made e) (unbounded u m more f) = let same = same_tree t u made more in cc

  pub refused_once : (f g : CircuitFault) → IsRefused text f → IsRefused text g → f ≡ g
  refused_once fault.Memory g r s = absurd r
  refused_once (fault.At line kind) fault.Memory r s = absurd s
  refused_once (fault.At line kind) (fault.At other another) (inl (is, e)) (inl (js, f)) = cc
  refused_once (fault.At line kind) (fault.At other another) (inl (is, e)) (inr (js, f)) = absurd (true≢false (sym is ∙ js))
  refused_once (fault.At line kind) (fault.At other another) (inr (is, e)) (inl (js, f)) = absurd (true≢false (sym js ∙ is))
  refused_once (fault.At line kind) (fault.At other another) (inr (is, e)) (inr (js, f)) = faulty_once line other kind another e f

  -- what follows for an answer
  pub only_memory : (c : Circuit) (f : CircuitFault) → (f ≡ fault.Memory) ⊎ IsRefused text f → StandsFor text c → f ≡ fault.Memory
  only_memory c f h s = elim h [ inl m ↦ m | inr r ↦ absurd (stands_refused c f s r) ]

  pub only_fault : (f g : CircuitFault) → (f ≡ fault.Memory) ⊎ IsRefused text f → IsRefused text g → (f ≡ g) ⊎ (f ≡ fault.Memory)
  only_fault f g h s = elim h [ inl m ↦ inr m | inr r ↦ inl (refused_once f g r s) ]
