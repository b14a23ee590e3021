-- The latest of the placed products that don't commute with another.
use Rattle.std.proofs.Common.{◌≡◌, ℕ, suc, ◌+◌, ◌-◌, ◌<◌, ◌≤◌, max, Bool, true, false, not, List, [], ◌∷◌, ◌++◌, length, get_or, take, drop, map, refl, ap, sym, ◌∙◌, subst, arith}
use Rattle.std.specs.Prelude.{filter, insert, slice_get, Some, if◌then◌else◌}
use Rattle.std.specs.List.Sorted.{IsNonDecreasingBy}
use Rattle.std.proofs.lemmas.List.{map-append, drop_more, take-append-drop, drop_all, get_or-take, length-take-le, get_or_default}
use Rattle.std.proofs.lemmas.List.Elements.{filter-append}
use Rattle.std.proofs.lemmas.List.Sorted.{IsNonDecreasingBy-insert}
use Rattle.std.proofs.lemmas.Option.{slice_get_read}
use Rattle.source_model.specs.declared.Static.{Static}
use Rattle.source_model.specs.Statics.{commuting}
use Rattle.slice_write.specs.declared.placed.Placed.{Placed}
use Rattle.slice_write.specs.Slices.{greatest, commute_at, commuting_ones}
use Rattle.slice_write.specs.inside.Clashes.{greatest_clash}
use Rattle.slice_write.proofs.Greatest.{greatest-append}

-- the slice of a placed product that doesn't commute with p
abbrev pub clash_of : List Static → Placed → ℕ → ℕ
clash_of products x p = if not (commute_at products x.product p) then x.slice else 0

pub clash_none : (products : List Static) (p : ℕ) → greatest_clash products [] p ≡ 0
unfolding greatest_clash
clash_none products p = refl

pub clash_append : (products : List Static) (a b : List Placed) (p : ℕ) → greatest_clash products (a ++ b) p ≡ max (greatest_clash products a p) (greatest_clash products b p)
unfolding greatest_clash
clash_append products a b p =
    ap (λ (l : List Placed). greatest (map (λ (x : Placed). x.slice) l)) (filter-append (λ (x : Placed). not (commute_at products x.product p)) a b)
    ∙ ap greatest (map-append (λ (x : Placed). x.slice) (filter (λ (x : Placed). not (commute_at products x.product p)) a) (filter (λ (x : Placed). not (commute_at products x.product p)) b))
    ∙ greatest-append (map (λ (x : Placed). x.slice) (filter (λ (x : Placed). not (commute_at products x.product p)) a)) (map (λ (x : Placed). x.slice) (filter (λ (x : Placed). not (commute_at products x.product p)) b))

clash_one : (products : List Static) (x : Placed) (p : ℕ) → greatest_clash products (x ∷ []) p ≡ clash_of products x p
unfolding greatest_clash
clash_one products x p = go (not (commute_at products x.product p))
  where
    go : (b : Bool) → greatest (map (λ (y : Placed). y.slice) (if b then (x ∷ []) else [])) ≡ (if b then x.slice else 0)
    go true = omega arith
    go false = refl

pub clash_cons : (products : List Static) (x : Placed) (xs : List Placed) (p : ℕ) → greatest_clash products (x ∷ xs) p ≡ max (clash_of products x p) (greatest_clash products xs p)
clash_cons products x xs p = clash_append products (x ∷ []) xs p ∙ ap (λ n. max n (greatest_clash products xs p)) (clash_one products x p)

-- one product more, wherever it is placed
pub clash_insert : (products : List Static) (xs : List Placed) (i : ℕ) (x : Placed) (p : ℕ) → greatest_clash products (insert xs i x) p ≡ max (greatest_clash products xs p) (clash_of products x p)
clash_insert products xs i x p =
    let whole : greatest_clash products xs p ≡ max (greatest_clash products (take i xs) p) (greatest_clash products (drop i xs) p) =
    ap (λ l. greatest_clash products l p) (sym (take-append-drop i xs)) ∙ clash_append products (take i xs) (drop i xs) p in
    omega (arith, clash_append products (take i xs) (x ∷ drop i xs) p, clash_cons products x (drop i xs) p, whole)

clash_bound : (products : List Static) (p r : ℕ) (xs : List Placed) → ((i : ℕ) (d : Placed) → i < length xs → (get_or xs i d).slice ≤ r) → greatest_clash products xs p ≤ r
clash_bound products p r [] each = rw (clash_none products p) (omega arith)
clash_bound products p r (x ∷ xs) each =
    rw (clash_cons products x xs p) (go (commute_at products x.product p) (each 0 x (omega arith)) (clash_bound products p r xs (λ i d h. each (suc i) d (omega arith))))
  where
    go : (b : Bool) → x.slice ≤ r → greatest_clash products xs p ≤ r → max (if not b then x.slice else 0) (greatest_clash products xs p) ≤ r
    go true le rest = omega arith
    go false le rest = omega arith

pub commute_looked : (products : List Static) (q p : ℕ) (u v : Static) → q < length products → p < length products → u ≡ get_or products q u → v ≡ get_or products p v
    → commute_at products q p ≡ commuting u v
unfolding commute_at
commute_looked products q p u v first second is_u is_v =
    ap (λ o. commuting_ones o (slice_get products p)) (slice_get_read products (length products) q u refl first is_u)
    ∙ ap (commuting_ones (Some u)) (slice_get_read products (length products) p v refl second is_v)

-- the products up to the k-th, that one, and those behind it
parts : (products : List Static) (xs : List Placed) (k p : ℕ) (d : Placed) → 0 < k → k ≤ length xs
    → greatest_clash products xs p ≡ max (greatest_clash products (take (k - 1) xs) p) (max (clash_of products (get_or xs (k - 1) d) p) (greatest_clash products (drop k xs) p))
parts products xs k p d some within =
    let inside : k - 1 < length xs = omega arith in
    let next : (k - 1) + 1 ≡ k = omega arith in
    let rest : drop (k - 1) xs ≡ get_or xs (k - 1) d ∷ drop k xs = drop_more xs (k - 1) d inside ∙ ap (λ n. get_or xs (k - 1) d ∷ drop n xs) next in
    ap (λ l. greatest_clash products l p) (sym (take-append-drop (k - 1) xs))
    ∙ clash_append products (take (k - 1) xs) (drop (k - 1) xs) p
    ∙ ap (λ l. max (greatest_clash products (take (k - 1) xs) p) (greatest_clash products l p)) rest
    ∙ ap (max (greatest_clash products (take (k - 1) xs) p)) (clash_cons products (get_or xs (k - 1) d) (drop k xs) p)

before_le : (products : List Static) (xs : List Placed) (k p : ℕ) (d : Placed) → 0 < k → k ≤ length xs → IsNonDecreasingBy (λ (x : Placed). x.slice) xs
    → greatest_clash products (take (k - 1) xs) p ≤ (get_or xs (k - 1) d).slice
before_le products xs k p d some within sorted =
    clash_bound products p (get_or xs (k - 1) d).slice (take (k - 1) xs) (λ i e h.
    let long : length (take (k - 1) xs) ≡ k - 1 = length-take-le (k - 1) xs (omega arith) in
    let low : i < k - 1 = omega (arith, h, long) in
    let P : Placed → Type 0 = λ y. y.slice ≤ (get_or xs (k - 1) d).slice in
    subst P (sym (get_or-take (k - 1) xs i e low)) (bound i e low))
  where
    bound : (i : ℕ) (e : Placed) → i < k - 1 → (get_or xs i e).slice ≤ (get_or xs (k - 1) d).slice
    bound i e low =
        let last : k - 1 < length xs = omega arith in
        let same : (get_or xs (k - 1) e).slice ≡ (get_or xs (k - 1) d).slice = ap (λ (z : Placed). z.slice) (get_or_default xs (k - 1) e d last) in
        omega (arith, sorted i (k - 1) e (omega arith) last, same)

pub clash_start : (products : List Static) (xs : List Placed) (p : ℕ) → greatest_clash products (drop (length xs) xs) p ≡ 0
clash_start products xs p = rw (drop_all (length xs) xs (omega arith)) (clash_none products p)

pub clash_skip : (products : List Static) (xs : List Placed) (k p : ℕ) (d : Placed) → 0 < k → k ≤ length xs → commute_at products (get_or xs (k - 1) d).product p ≡ true
    → greatest_clash products (drop k xs) p ≡ 0 → greatest_clash products (drop (k - 1) xs) p ≡ 0
clash_skip products xs k p d some within commutes none =
    let inside : k - 1 < length xs = omega arith in
    let next : (k - 1) + 1 ≡ k = omega arith in
    let rest : drop (k - 1) xs ≡ get_or xs (k - 1) d ∷ drop k xs = drop_more xs (k - 1) d inside ∙ ap (λ n. get_or xs (k - 1) d ∷ drop n xs) next in
    rw (rest, clash_cons products (get_or xs (k - 1) d) (drop k xs) p, commutes, none) refl

pub clash_here : (products : List Static) (xs : List Placed) (k p floor : ℕ) (d : Placed) → 0 < k → k ≤ length xs → IsNonDecreasingBy (λ (x : Placed). x.slice) xs
    → commute_at products (get_or xs (k - 1) d).product p ≡ false → greatest_clash products (drop k xs) p ≡ 0 → floor < (get_or xs (k - 1) d).slice
    → (get_or xs (k - 1) d).slice ≡ max floor (greatest_clash products xs p)
clash_here products xs k p floor d some within sorted clashes none above =
    let its : clash_of products (get_or xs (k - 1) d) p ≡ (get_or xs (k - 1) d).slice = rw clashes refl in
    omega (arith, parts products xs k p d some within, before_le products xs k p d some within sorted, its, none, above)

pub clash_floor : (products : List Static) (xs : List Placed) (k p floor : ℕ) (d : Placed) → 0 < k → k ≤ length xs → IsNonDecreasingBy (λ (x : Placed). x.slice) xs
    → greatest_clash products (drop k xs) p ≡ 0 → (get_or xs (k - 1) d).slice ≤ floor
    → floor ≡ max floor (greatest_clash products xs p)
clash_floor products xs k p floor d some within sorted none below =
    omega (arith, parts products xs k p d some within, before_le products xs k p d some within sorted, its (commute_at products (get_or xs (k - 1) d).product p), none, below)
  where
    its : (b : Bool) → (if not b then (get_or xs (k - 1) d).slice else 0) ≤ (get_or xs (k - 1) d).slice
    its true = omega arith
    its false = omega arith

pub place_sorted : (xs : List Placed) (at : ℕ) (y : Placed) → IsNonDecreasingBy (λ (x : Placed). x.slice) xs → at ≤ length xs
    → ((k : ℕ) (d : Placed) → at ≤ k → k < length xs → y.slice ≤ (get_or xs k d).slice)
    → (0 < at → (x : Placed) × (x ≡ get_or xs (at - 1) x) × (x.slice ≤ y.slice))
    → IsNonDecreasingBy (λ (x : Placed). x.slice) (insert xs at y)
place_sorted xs at y sorted within above below =
    IsNonDecreasingBy-insert (λ (x : Placed). x.slice) xs at y sorted within
    (λ k d low.
    let (x, is, le) = below (omega arith) in
    let last : at - 1 < length xs = omega arith in
    let here : (get_or xs (at - 1) d).slice ≡ x.slice = ap (λ (z : Placed). z.slice) (get_or_default xs (at - 1) d x last ∙ sym is) in
    omega (arith, sorted k (at - 1) d (omega arith) last, here, le))
    above

pub clash_end : (products : List Static) (xs : List Placed) (k p floor : ℕ) → k ≤ 0 → greatest_clash products (drop k xs) p ≡ 0 → floor ≡ max floor (greatest_clash products xs p)
clash_end products xs k p floor end none =
    let e : k ≡ 0 = omega arith in
    let all : greatest_clash products xs p ≡ 0 = ap (λ n. greatest_clash products (drop n xs) p) (sym e) ∙ none in
    omega (arith, all)
