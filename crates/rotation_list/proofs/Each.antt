-- Facts of each element of a list, by recursion.
use Rattle.std.proofs.Common.{List, [], ◌∷◌, ◌++◌, map}
use Rattle.std.specs.List.{flat_map, AllByRecursion as ByRecursion}

pub both_parts : {X : Type 0} (P : X → Type 0) (xs ys : List X) → ByRecursion P xs → ByRecursion P ys → ByRecursion P (xs ++ ys)
both_parts P [] ys h k = k
both_parts P (x ∷ xs) ys h k = (h.0, both_parts P xs ys h.1 k)

pub each_part : {X Y : Type 0} (P : Y → Type 0) (f : X → List Y) (xs : List X) → ((x : X) → ByRecursion P (f x)) → ByRecursion P (flat_map f xs)
each_part P f [] h = tt
each_part P f (x ∷ xs) h = both_parts P (f x) (flat_map f xs) (h x) (each_part P f xs h)

pub each_image : {X Y : Type 0} (P : Y → Type 0) (f : X → Y) (xs : List X) → ((x : X) → P (f x)) → ByRecursion P (map f xs)
each_image P f [] h = tt
each_image P f (x ∷ xs) h = (h x, each_image P f xs h)
