-- Arguments that mean one qubit at some index.
use Rattle.std.proofs.Common.{◌≡◌, ℕ, zero, suc, ◌+◌, ◌-◌, ◌<◌, Bool, true, false, ◌&&◌, ◌||◌, nat_lt, nat_le, List, length, take, drop, get_or, refl, sym, ap, ◌∙◌, arith}
use Rattle.std.specs.Prelude.{◌==◌}
use Rattle.std.specs.List.{list_any, range_with_len}
use Rattle.std.proofs.lemmas.List.{take_all, length-drop}
use Rattle.std.proofs.lemmas.Bool.Decides.{nat_tests}
use Rattle.qasm_parse.specs.Faults.{any_pair}
use Rattle.qasm_parse.proofs.Lists.{next_of}

pub any_shift : (f g s n : ℕ) → list_any (λ i. f + i == g + i) (range_with_len s n) ≡ (nat_lt 0 n && f == g)
any_shift f g s zero = refl
any_shift f g s (suc n) = let rest = any_shift f g (s + 1) n in rw rest (grind (arith, nat_tests))

member_from : (f x s n : ℕ) → list_any (λ i. f + i == x) (range_with_len s n) ≡ (nat_le (f + s) x && nat_lt (x - (f + s)) n)
member_from f x s zero = grind (arith, nat_tests)
member_from f x s (suc n) = let rest = member_from f x (s + 1) n in rw rest (grind (arith, nat_tests))

index_from : (f x s n : ℕ) → list_any (λ i. x == f + i) (range_with_len s n) ≡ (nat_le (f + s) x && nat_lt (x - (f + s)) n)
index_from f x s zero = grind (arith, nat_tests)
index_from f x s (suc n) = let rest = index_from f x (s + 1) n in rw rest (grind (arith, nat_tests))

pub any_member : (f x n : ℕ) → list_any (λ i. f + i == x) (range_with_len 0 n) ≡ (nat_le f x && nat_lt (x - f) n)
any_member f x n = member_from f x 0 n ∙ ap (λ (m : ℕ). nat_le m x && nat_lt (x - m) n) {x = f + 0} {y = f} (omega arith)

pub any_index : (f x n : ℕ) → list_any (λ i. x == f + i) (range_with_len 0 n) ≡ (nat_le f x && nat_lt (x - f) n)
any_index f x n = index_from f x 0 n ∙ ap (λ (m : ℕ). nat_le m x && nat_lt (x - m) n) {x = f + 0} {y = f} (omega arith)

pub any_same : (x y s n : ℕ) → list_any (λ i. x == y) (range_with_len s n) ≡ (nat_lt 0 n && x == y)
any_same x y s zero = refl
any_same x y s (suc n) = let rest = any_same x y (s + 1) n in rw rest (grind (arith, nat_tests))

-- all after a place
all_behind : {X : Type 0} (xs : List X) (n : ℕ) → take (length xs - n) (drop n xs) ≡ drop n xs
all_behind xs n = take_all (length xs - n) (drop n xs) (omega (arith, length-drop n xs))

-- a loop over the first of each pair
pub pair_found : {X : Type 0} (r : X → X → Bool) (xs : List X) (i : ℕ) (d : X) → i < length xs → any_pair r (drop i xs) ≡ any_pair r xs → true ≡ list_any (r (get_or xs i d)) (take (length xs - (i + 1)) (drop (i + 1) xs)) → true ≡ any_pair r xs
pair_found r xs i d lt e h =
    sym (sym e ∙ ap (any_pair r) (next_of xs i d lt) ∙ ap (λ (b : Bool). b || any_pair r (drop (i + 1) xs)) (ap (list_any (r (get_or xs i d))) (sym (all_behind xs (i + 1))) ∙ sym h))

pub pair_step : {X : Type 0} (r : X → X → Bool) (xs : List X) (i : ℕ) (d : X) → i < length xs → any_pair r (drop i xs) ≡ any_pair r xs → false ≡ list_any (r (get_or xs i d)) (take (length xs - (i + 1)) (drop (i + 1) xs)) → any_pair r (drop (i + 1) xs) ≡ any_pair r xs
pair_step r xs i d lt e h =
    sym (sym e ∙ ap (any_pair r) (next_of xs i d lt) ∙ ap (λ (b : Bool). b || any_pair r (drop (i + 1) xs)) (ap (list_any (r (get_or xs i d))) (sym (all_behind xs (i + 1))) ∙ sym h))
