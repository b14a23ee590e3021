-- Lists of numbers.
use Rattle.std.specs.Prelude.{◌≡◌, ℕ, Bool, not, List, if◌then◌else◌, nat_lt, ◌==◌}
use Rattle.std.specs.List.{count_by, filter}

abbrev pub one_if : Bool → ℕ
one_if b = if b then 1 else 0

-- how many times n stands in the list
abbrev pub times : ℕ → List ℕ → ℕ
times n xs = count_by (λ m. m == n) xs

-- the list has each number below k once, and no other
abbrev pub HasEachOnce : ℕ → List ℕ → Type 0
HasEachOnce k xs = (n : ℕ) → times n xs ≡ one_if (nat_lt n k)

abbrev pub without : ℕ → List ℕ → List ℕ
without n xs = filter (λ m. not (m == n)) xs
