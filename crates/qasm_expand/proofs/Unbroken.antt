-- What follows where no rule of names is broken.
use Rattle.std.proofs.Common.{◌≡◌, ℕ, ◌<◌, ◌≤◌, Bool, true, false, not, List, [], ◌∷◌, ◌++◌, map, Option, Some, None, All, refl, sym, arith}
use Rattle.std.specs.Prelude.{◌==◌, nat_le, nat_lt, is_none}
use Rattle.std.specs.List.{flat_map}
use Rattle.std.proofs.lemmas.Bool.Decides.{nat_tests}
use Rattle.std.proofs.lemmas.List.Elements.{All-nil, All-cons}
use Rattle.std.proofs.lemmas.Option.{none-some}
use Rattle.qasm_lex.specs.declared.fault.FaultKind.{FaultKind}
use Rattle.qasm_lex.specs.declared.fault.FaultKind.TheVariants.{Unknown}
use Rattle.qasm_parse.specs.declared.stop.Stop.{Stop}
use Rattle.qasm_parse.specs.declared.known.Called.{Called}
use Rattle.qasm_parse.specs.Faults.{broken, first_fault, named_faults}

pub none_front : (fs gs : List (Option Stop)) → first_fault (fs ++ gs) ≡ None → first_fault fs ≡ None
unfolding first_fault
none_front [] gs e = refl
none_front (None ∷ fs) gs e = none_front fs gs e
none_front (Some f ∷ fs) gs e = e

pub none_behind : (fs gs : List (Option Stop)) → first_fault (fs ++ gs) ≡ None → first_fault gs ≡ None
unfolding first_fault
none_behind [] gs e = e
none_behind (None ∷ fs) gs e = none_behind fs gs e
none_behind (Some f ∷ fs) gs e = absurd (none-some f (sym e))

pub none_here : (f : Option Stop) (fs : List (Option Stop)) → first_fault (f ∷ fs) ≡ None → f ≡ None
unfolding first_fault
none_here None fs e = refl
none_here (Some f) fs e = e

pub none_rest : (f : Option Stop) (fs : List (Option Stop)) → first_fault (f ∷ fs) ≡ None → first_fault fs ≡ None
unfolding first_fault
none_rest None fs e = e
none_rest (Some f) fs e = absurd (none-some f (sym e))

pub none_each : {X : Type 0} (h : X → Option Stop) (xs : List X) → first_fault (map h xs) ≡ None → All (λ x. h x ≡ None) xs
none_each h [] e = All-nil (λ x. h x ≡ None)
none_each h (x ∷ xs) e = All-cons (λ y. h y ≡ None) x xs (none_here (h x) (map h xs) e) (none_each h xs (none_rest (h x) (map h xs) e))

pub none_flat : {X : Type 0} (h : X → List (Option Stop)) (xs : List X) → first_fault (flat_map h xs) ≡ None → All (λ x. first_fault (h x) ≡ None) xs
none_flat h [] e = All-nil (λ x. first_fault (h x) ≡ None)
none_flat h (x ∷ xs) e = All-cons (λ y. first_fault (h y) ≡ None) x xs (none_front (h x) (flat_map h xs) e) (none_flat h xs (none_behind (h x) (flat_map h xs) e))

pub unbroken : (kind : FaultKind) (b : Bool) (at : ℕ) → broken kind b at ≡ None → b ≡ false
unbroken kind true at e = absurd (none-some _ (sym e))
unbroken kind false at e = refl

pub same_number : (m n : ℕ) → not (m == n) ≡ false → m ≡ n
same_number m n e = grind (arith, nat_tests)

pub affirmed : (b : Bool) → not b ≡ false → b ≡ true
affirmed true e = refl
affirmed false e = sym e

pub not_le : (m n : ℕ) → nat_le m n ≡ false → n < m
not_le m n e = grind (arith, nat_tests)

pub not_lt : (m n : ℕ) → nat_lt m n ≡ false → n ≤ m
not_lt m n e = grind (arith, nat_tests)

pub not_zero : (n : ℕ) → (n == 0) ≡ false → 0 < n
not_zero n e = grind (arith, nat_tests)

pub some_of : {X : Type 0} (o : Option X) → is_none o ≡ false → (x : X) × (o ≡ Some x)
some_of None e = absurd (let t : true ≡ false = e in cc)
some_of (Some x) e = (x, refl)

-- a gate is known, and its other rules aren't broken
pub record Named (o : Option Called) (others : Called → List (Option Stop)) : Type 0 where
  pub gate : Called
  pub found : o ≡ Some gate
  pub unbroken : first_fault (others gate) ≡ None

pub named_gate : (o : Option Called) (name : ℕ) (others : Called → List (Option Stop)) → first_fault (named_faults o name others) ≡ None → Named o others
named_gate None name others e = absurd (let t : true ≡ false = unbroken Unknown true name (none_here (broken Unknown true name) [] e) in cc)
named_gate (Some g) name others e = record { gate = g; found = refl; unbroken = e }
