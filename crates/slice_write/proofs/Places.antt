-- Tables of numbers, place by place.
use Rattle.std.proofs.Common.{◌≡◌, ℕ, ◌+◌, ◌<◌, max, ◌==◌, ◌||◌, List, [], ◌∷◌, length, get_or, set, take, map, ap, sym, ◌∙◌, arith, inl, inr, eqb-true, get_or-set_same, get_or-set_other}
use Rattle.std.specs.Prelude.{if◌then◌else◌}
use Rattle.std.proofs.lemmas.Bool.{cases_Bool, eqb-false}
use Rattle.std.proofs.lemmas.List.{map-append, take_more}
use Rattle.slice_write.specs.Slices.{greatest, is_among}
use Rattle.slice_write.specs.inside.Numbers.{greatest_at}
use Rattle.slice_write.proofs.Among.{among_append, or_true, or_false}
use Rattle.slice_write.proofs.Greatest.{greatest-append}

pub greatest_at_more : (table cs : List ℕ) (i : ℕ) → i < length cs → greatest_at table (take (i + 1) cs) ≡ max (get_or table (get_or cs i 0) 0) (greatest_at table (take i cs))
greatest_at_more table cs i inside =
    ap (greatest_at table) (take_more cs i 0 inside)
    ∙ ap greatest (map-append (λ c. get_or table c 0) (take i cs) (get_or cs i 0 ∷ []))
    ∙ greatest-append (map (λ c. get_or table c 0) (take i cs)) (get_or table (get_or cs i 0) 0 ∷ [])
    ∙ omega arith

among_more : (cs : List ℕ) (i c : ℕ) → i < length cs → is_among (take (i + 1) cs) c ≡ (is_among (take i cs) c || (get_or cs i 0 == c))
among_more cs i c inside =
    ap (λ l. is_among l c) (take_more cs i 0 inside)
    ∙ among_append (take i cs) (get_or cs i 0 ∷ []) c
    ∙ ap (λ b. is_among (take i cs) c || b) (or_false (get_or cs i 0 == c))

pub set_more : (was table cs : List ℕ) (i n : ℕ) → i < length cs → get_or cs i 0 < length table
    → ((c : ℕ) → c < length was → get_or table c 0 ≡ (if is_among (take i cs) c then n else get_or was c 0))
    → (c : ℕ) → c < length was → get_or (set table (get_or cs i 0) n) c 0 ≡ (if is_among (take (i + 1) cs) c then n else get_or was c 0)
set_more was table cs i n inside within so_far c low = elim (cases_Bool (get_or cs i 0 == c)) [
  | inl same ↦
      let e : get_or cs i 0 ≡ c = eqb-true (get_or cs i 0) c same in
      let at : c < length table = omega (arith, e, within) in
      rw (among_more cs i c inside, same, or_true (is_among (take i cs) c), e) (get_or-set_same table c n 0 at)
  | inr other ↦
      let ne : get_or cs i 0 ≡ c → ⊥ = eqb-false (get_or cs i 0) c other in
      rw (among_more cs i c inside, other, or_false (is_among (take i cs) c)) (get_or-set_other table (get_or cs i 0) c n 0 (λ e. ne (sym e)) ∙ so_far c low)
]
