-- The first rule that is broken.
use Rattle.std.proofs.Common.{◌≡◌, ℕ, ◌+◌, ◌<◌, List, [], ◌∷◌, ◌++◌, map, length, take, drop, get_or, Option, Some, None, refl, sym, ap, ◌∙◌, append-nil, take-append-drop}
use Rattle.std.specs.List.{flat_map, slice_get}
use Rattle.std.proofs.lemmas.Option.{slice_get-get_or}
use Rattle.std.proofs.lemmas.List.{map-append, take_more}
use Rattle.std.proofs.lemmas.List.Concat.{flat_map-append}
use Rattle.qasm_parse.specs.declared.stop.Stop.{Stop}
use Rattle.qasm_parse.specs.Faults.{first_fault}
use Rattle.qasm_parse.proofs.Lists.{map_more, next_of}

-- no rules
pub first_none : first_fault [] ≡ None
unfolding first_fault
first_none = refl

-- a rule that is broken in front of others
pub first_front : (xs ys : List (Option Stop)) (s : Stop) → first_fault xs ≡ Some s → first_fault (xs ++ ys) ≡ Some s
unfolding first_fault
first_front [] ys s e = cc
first_front (None ∷ xs) ys s e = first_front xs ys s e
first_front (Some f ∷ xs) ys s e = e

-- the first of these rules and of one more
pub first_joined : (xs : List (Option Stop)) (y : Option Stop) → first_fault (xs ++ y ∷ []) ≡ first_fault (first_fault xs ∷ y ∷ [])
unfolding first_fault
first_joined [] y = refl
first_joined (None ∷ xs) y = first_joined xs y
first_joined (Some f ∷ xs) y = refl

-- rules after those that aren't broken
pub first_behind : (xs ys : List (Option Stop)) → first_fault xs ≡ None → first_fault (xs ++ ys) ≡ first_fault ys
unfolding first_fault
first_behind [] ys e = refl
first_behind (None ∷ xs) ys e = first_behind xs ys e
first_behind (Some f ∷ xs) ys e = cc

pub first_here : (x : Option Stop) (ys : List (Option Stop)) (s : Stop) → x ≡ Some s → first_fault (x ∷ ys) ≡ Some s
unfolding first_fault
first_here None ys s e = cc
first_here (Some f) ys s e = e

pub first_next : (x : Option Stop) (ys : List (Option Stop)) → x ≡ None → first_fault (x ∷ ys) ≡ first_fault ys
unfolding first_fault
first_next None ys e = refl
first_next (Some f) ys e = cc

split_at : {X : Type 0} (xs : List X) (i : ℕ) (d : X) → i < length xs → xs ≡ take i xs ++ (get_or xs i d ∷ drop (i + 1) xs)
split_at xs i d lt = sym (take-append-drop i xs) ∙ ap (λ (ys : List _). take i xs ++ ys) (next_of xs i d lt)

-- the first item that breaks a rule
pub first_at : {X : Type 0} (f : X → Option Stop) (xs : List X) (i : ℕ) (d : X) (s : Stop) → i < length xs → first_fault (map f (take i xs)) ≡ None → f (get_or xs i d) ≡ Some s → first_fault (map f xs) ≡ Some s
first_at f xs i d s lt before here =
    ap (λ (ys : List _). first_fault (map f ys)) (split_at xs i d lt)
    ∙ ap first_fault (map-append f (take i xs) (get_or xs i d ∷ drop (i + 1) xs))
    ∙ first_behind (map f (take i xs)) (map f (get_or xs i d ∷ drop (i + 1) xs)) before
    ∙ first_here (f (get_or xs i d)) (map f (drop (i + 1) xs)) s here

-- one more item that breaks none
pub first_more : {X : Type 0} (f : X → Option Stop) (xs : List X) (i : ℕ) (d : X) → i < length xs → first_fault (map f (take i xs)) ≡ None → f (get_or xs i d) ≡ None → first_fault (map f (take (i + 1) xs)) ≡ None
first_more f xs i d lt before here =
    ap first_fault (map_more f xs i d lt)
    ∙ first_behind (map f (take i xs)) (f (get_or xs i d) ∷ []) before
    ∙ first_next (f (get_or xs i d)) [] here
    ∙ first_none

-- the same where each item has rules of its own
pub first_flat : {X : Type 0} (f : X → List (Option Stop)) (xs : List X) (i : ℕ) (d : X) (s : Stop) → i < length xs → first_fault (flat_map f (take i xs)) ≡ None → first_fault (f (get_or xs i d)) ≡ Some s → first_fault (flat_map f xs) ≡ Some s
first_flat f xs i d s lt before here =
    ap (λ (ys : List _). first_fault (flat_map f ys)) (split_at xs i d lt)
    ∙ ap first_fault (flat_map-append f (take i xs) (get_or xs i d ∷ drop (i + 1) xs))
    ∙ first_behind (flat_map f (take i xs)) (flat_map f (get_or xs i d ∷ drop (i + 1) xs)) before
    ∙ first_front (f (get_or xs i d)) (flat_map f (drop (i + 1) xs)) s here

pub first_flat_more : {X : Type 0} (f : X → List (Option Stop)) (xs : List X) (i : ℕ) (d : X) → i < length xs → first_fault (flat_map f (take i xs)) ≡ None → first_fault (f (get_or xs i d)) ≡ None → first_fault (flat_map f (take (i + 1) xs)) ≡ None
first_flat_more f xs i d lt before here =
    ap (λ (ys : List _). first_fault (flat_map f ys)) (take_more xs i d lt)
    ∙ ap first_fault (flat_map-append f (take i xs) (get_or xs i d ∷ []))
    ∙ first_behind (flat_map f (take i xs)) (f (get_or xs i d) ++ []) before
    ∙ ap first_fault (append-nil (f (get_or xs i d))) ∙ here

same_item : {X : Type 0} (a b : X) → Some a ≡ Some b → a ≡ b
same_item a b e = cc

-- the item at a place
pub item_is : {X : Type 0} (xs : List X) (i : ℕ) (x : X) → i < length xs → slice_get xs i ≡ Some x → get_or xs i x ≡ x
item_is xs i x lt e = same_item (get_or xs i x) x (sym (slice_get-get_or xs i x lt) ∙ e)
