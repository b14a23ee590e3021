-- The table of slots that are filled up to a place.
use Rattle.std.proofs.Common.{◌≡◌, ℕ, zero, suc, ◌+◌, ◌<◌, List, [], ◌∷◌, ◌++◌, length, map, take, get_or, Option, Some, None, sym, ◌∙◌, ap, arith}
use Rattle.std.specs.List.{slice_get}
use Rattle.std.proofs.lemmas.List.{map-append, take_more}

pub filled_more : {A : Type 0} (slots : List (Option A)) (table : List A) (p : ℕ) (g : A) (d : Option A) → p < length slots → get_or slots p d ≡ Some g → take p slots ≡ map (λ x. Some x) table → take (p + 1) slots ≡ map (λ x. Some x) (table ++ g ∷ [])
filled_more slots table p g d inside read e =
    take_more slots p d inside ∙ ap (λ xs. xs ++ get_or slots p d ∷ []) e ∙ ap (λ o. map (λ x. Some x) table ++ o ∷ []) read ∙ sym (map-append (λ x. Some x) table (g ∷ []))

-- nothing is missing before that place
pub none_before : {A : Type 0} (slots : List (Option A)) (table : List A) (p q : ℕ) → take p slots ≡ map (λ x. Some x) table → q < p → slice_get slots q ≡ Some None → ⊥
none_before [] table p q e below f = cc
none_before (o ∷ slots) table zero q e below f = absurd (omega arith)
none_before (o ∷ slots) [] (suc p) q e below f = cc
none_before (o ∷ slots) (g ∷ table) (suc p) zero e below f = let first : o ≡ Some g = cc in let none : o ≡ None = cc in cc
none_before (o ∷ slots) (g ∷ table) (suc p) (suc q) e below f = none_before slots table p q (cc) (omega arith) f
