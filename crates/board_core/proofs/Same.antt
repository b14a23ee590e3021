-- Lists that agree at each place.
use Rattle.std.proofs.Common.{◌≡◌, ℕ, zero, suc, ◌<◌, List, [], ◌∷◌, length, slice_get, refl, ap₂, arith}
use Rattle.std.proofs.lemmas.Option.{same_Some}

pub same_lists : {A : Type 0} (xs ys : List A) → length xs ≡ length ys → ((k : ℕ) → k < length xs → slice_get xs k ≡ slice_get ys k) → xs ≡ ys
same_lists [] [] l h = refl
same_lists [] (y ∷ ys) l h = absurd (omega arith)
same_lists (x ∷ xs) [] l h = absurd (omega arith)
same_lists (x ∷ xs) (y ∷ ys) l h = ap₂ ◌∷◌ (same_Some x y (h zero (omega arith))) (same_lists xs ys (omega arith) (λ k m. h (suc k) (omega arith)))
