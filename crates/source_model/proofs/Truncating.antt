-- The first entries of a table as the values of a function.
use Rattle.std.proofs.Common.{◌≡◌, ℕ, zero, suc, ◌+◌, ◌≤◌, Bool, false, List, [], ◌∷◌, length, take, map, slice_index_or, refl, ap, ap₂, ◌∙◌, arith}
use Rattle.std.specs.List.{range_with_len}

pub first_entries : (g : ℕ → Bool) (a n : ℕ) (bits : List Bool) → n ≤ length bits → ((b : ℕ) → slice_index_or bits b false ≡ g (a + b)) → take n bits ≡ map g (range_with_len a n)
first_entries g a zero bits l h = refl
first_entries g a (suc n) [] l h = absurd (omega arith)
first_entries g a (suc n) (x ∷ xs) l h =
    let start : a + 0 ≡ a = omega arith in
    ap₂ ◌∷◌ (h 0 ∙ ap g start) (first_entries g (a + 1) n xs (omega arith) (λ b. let next : a + suc b ≡ a + 1 + b = omega arith in h (suc b) ∙ ap g next))
