-- Lists of names, and of pairs.
use Rattle.std.proofs.Common.{◌≡◌, ℕ, suc, ◌+◌, ◌<◌, Bool, true, false, not, ◌||◌, cond, if◌then◌else◌, nat_lt, List, [], ◌∷◌, ◌++◌, map, fold, position, length, take, drop, get_or, Some, None, refl, sym, ap, ◌∙◌, arith, add-one, drop-cons}
use Rattle.std.specs.Str.{bytes_eq}
use Rattle.std.proofs.lemmas.Bool.Decides.{nat_tests}
use Rattle.indexmap.specs.IndexSet.{insert_key}
use Rattle.std.specs.List.{list_any, position_or_len}
use Rattle.std.proofs.lemmas.List.{take_more, map-append, length-map}

-- the place of an item among images
position_or_len-map : {X Y : Type 0} (f : X → Y) (p : Y → Bool) (xs : List X) → position_or_len p (map f xs) ≡ position_or_len (λ x. p (f x)) xs
position_or_len-map f p [] = refl
position_or_len-map f p (x ∷ xs) = ap (λ (n : ℕ). cond (not (p (f x))) (1 + n) 0) (position_or_len-map f p xs)

pub position-map : {X Y : Type 0} (f : X → Y) (p : Y → Bool) (xs : List X) → position p (map f xs) ≡ position (λ x. p (f x)) xs
position-map f p xs = rw (position_or_len-map, length-map) refl

pub list_any-map : {X Y : Type 0} (f : X → Y) (p : Y → Bool) (xs : List X) → list_any p (map f xs) ≡ list_any (λ x. p (f x)) xs
list_any-map f p [] = refl
list_any-map f p (x ∷ xs) = ap (λ (b : Bool). p (f x) || b) (list_any-map f p xs)

any_place : {X : Type 0} (p : X → Bool) (xs : List X) → list_any p xs ≡ nat_lt (position_or_len p xs) (length xs)
any_place p [] = refl
any_place p (x ∷ xs) = by (p x) (any_place p xs)
  where
    by : (b : Bool) → list_any p xs ≡ nat_lt (position_or_len p xs) (length xs) → (b || list_any p xs) ≡ nat_lt (cond (not b) (1 + position_or_len p xs) 0) (suc (length xs))
    by true e = grind (arith, nat_tests)
    by false e = e ∙ grind (arith, nat_tests)

unplaced : (b : Bool) (n : ℕ) → cond b (Some n) None ≡ None → b ≡ false
unplaced true n e = cc
unplaced false n e = refl

-- no item passes a test where none has a place
pub none_passes : {X : Type 0} (p : X → Bool) (xs : List X) → position p xs ≡ None → list_any p xs ≡ false
none_passes p xs e = any_place p xs ∙ unplaced (nat_lt (position_or_len p xs) (length xs)) (position_or_len p xs) e

-- the next item, and those after it
pub next_of : {X : Type 0} (xs : List X) (i : ℕ) (d : X) → i < length xs → drop i xs ≡ get_or xs i d ∷ drop (i + 1) xs
next_of xs i d lt = rw (add-one, drop-cons xs i d) refl

-- one more item
pub map_more : {X Y : Type 0} (f : X → Y) (xs : List X) (i : ℕ) (d : X) → i < length xs → map f (take (i + 1) xs) ≡ map f (take i xs) ++ f (get_or xs i d) ∷ []
map_more f xs i d lt = ap (map f) (take_more xs i d lt) ∙ map-append f (take i xs) (get_or xs i d ∷ [])

chosen_last : {K : Type 0} (b : Bool) (ks : List K) (k : K) → b ≡ false → (if b then ks else ks ++ k ∷ []) ≡ ks ++ k ∷ []
chosen_last true ks k e = cc
chosen_last false ks k e = refl

-- a key that is inserted among keys whose names have none like its own
pub key_pushed : {K : Type 0} (items : K → List ℕ) (ks new : List K) (k : K) (names : List (List ℕ)) (name : List ℕ) → map items ks ≡ names → items k ≡ name → position (bytes_eq name) names ≡ None → new ≡ insert_key (λ a b. bytes_eq (items a) (items b)) ks k → map items new ≡ names ++ name ∷ []
key_pushed items ks new k names name v i none e =
    let away : position (bytes_eq (items k)) (map items ks) ≡ None = rw (v, i) none in
    let absent = none_passes (λ a. bytes_eq (items k) (items a)) ks (sym (position-map items (bytes_eq (items k)) ks) ∙ away) in
    ap (map items) (e ∙ chosen_last (list_any (λ a. bytes_eq (items k) (items a)) ks) ks k absent) ∙ map-append items ks (k ∷ []) ∙ rw (v, i) refl

pub fold_more : (f : ℕ → ℕ → ℕ) (a : ℕ) (xs : List ℕ) (x : ℕ) → fold f a (xs ++ x ∷ []) ≡ f (fold f a xs) x
fold_more f a [] x = refl
fold_more f a (y ∷ ys) x = fold_more f (f a y) ys x
