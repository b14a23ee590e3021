-- Steps of loops: over lists, over indices, and over definitions.
use Rattle.std.proofs.Common.{◌≡◌, ℕ, ◌+◌, ◌<◌, List, [], ◌∷◌, ◌++◌, length, get_or, take, map, sym, ◌∙◌, ap, append_assoc, arith}
use Rattle.std.specs.List.{range_with_len, flat_map}
use Rattle.std.proofs.lemmas.List.{take_more, flat_map_more, append-nil, map-append, map-id}
use Rattle.std.proofs.lemmas.List.FromFn.{map-range_with_len_more}
use Rattle.qasm_expand.specs.declared.cost.Cost.{Cost}
use Rattle.qasm_expand.specs.inside.Costs.{capped, capped_cost}

-- one more index
pub range_more : (n : ℕ) → range_with_len 0 (n + 1) ≡ range_with_len 0 n ++ n ∷ []
range_more n = sym (map-id (range_with_len 0 (n + 1))) ∙ map-range_with_len_more (λ x. x) 0 n n (omega arith) ∙ ap (λ xs. xs ++ n ∷ []) (map-id (range_with_len 0 n))

pub flat_map_one : {X A : Type 0} (f : X → List A) (x : X) → flat_map f (x ∷ []) ≡ f x
flat_map_one f x = append-nil (f x)

-- a list that holds what stands before and what the first indices give, with what the next one gives
pub flat_index_more : {A : Type 0} (f : ℕ → List A) (before : List A) (n : ℕ) → (before ++ flat_map f (range_with_len 0 n)) ++ f n ≡ before ++ flat_map f (range_with_len 0 (n + 1))
flat_index_more f before n = flat_map_more f before (range_with_len 0 n) n ∙ ap (λ xs. before ++ flat_map f xs) (sym (range_more n))

pub index_more : {A : Type 0} (f : ℕ → A) (before : List A) (n : ℕ) → (before ++ map f (range_with_len 0 n)) ++ f n ∷ [] ≡ before ++ map f (range_with_len 0 (n + 1))
index_more f before n = append_assoc before (map f (range_with_len 0 n)) (f n ∷ []) ∙ ap (λ xs. before ++ xs) (sym (map-range_with_len_more f 0 n n (omega arith)))

-- the same for the first items of a list
pub flat_more : {X A : Type 0} (f : X → List A) (before : List A) (xs : List X) (i : ℕ) (d : X) → i < length xs → (before ++ flat_map f (take i xs)) ++ f (get_or xs i d) ≡ before ++ flat_map f (take (i + 1) xs)
flat_more f before xs i d h = flat_map_more f before (take i xs) (get_or xs i d) ∙ ap (λ ys. before ++ flat_map f ys) (sym (take_more xs i d h))

pub map_more : {X A : Type 0} (f : X → A) (xs : List X) (i : ℕ) (d : X) → i < length xs → map f (take i xs) ++ f (get_or xs i d) ∷ [] ≡ map f (take (i + 1) xs)
map_more f xs i d h = sym (ap (map f) (take_more xs i d h) ∙ map-append f (take i xs) (get_or xs i d ∷ []))

-- a sum that stops at the greatest word goes on as the sum does
pub capped-add : (a c : ℕ) → capped (capped a + c) ≡ capped (a + c)
capped-add a c = omega arith

pub capped_more : (a b : ℕ) (c : Cost) → capped_cost (capped a + c.operations) (capped b + c.products) ≡ capped_cost (a + c.operations) (b + c.products)
capped_more a b c =
    let operations : capped (capped a + c.operations) ≡ capped (a + c.operations) = capped-add a c.operations in
    let products : capped (capped b + c.products) ≡ capped (b + c.products) = capped-add b c.products in
    cc
