-- Which arrivals serve their products, and which are strays.
use Rattle.std.specs.Prelude.{◌≡◌, ◌==◌, ◌&&◌, ℕ, Bool, true, false, not, List, ◌∷◌, ◌++◌, Option, Some, None, slice_get, length, take}
use Rattle.std.specs.List.{All, list_any, filter, range_with_len}
use Rattle.arrival_line.specs.declared.arrival.Arrival.{Arrival}
use Rattle.source_model.specs.declared.Given.{Given}
use Rattle.source_model.specs.declared.Given.TheVariants as given
use Rattle.source_model.specs.declared.Kind.{Kind}
use Rattle.source_model.specs.declared.Kind.TheVariants as kind

-- the outcome is of the product's kind
abbrev pub is_of : Kind → Given → Bool
is_of kind.Rotation (given.Rotation raw x) = true
is_of kind.Rotation (given.Measure raw) = false
is_of kind.Rotation given.Settled = false
is_of (kind.Measure bit) (given.Rotation raw x) = false
is_of (kind.Measure bit) (given.Measure raw) = true
is_of (kind.Measure bit) given.Settled = false
is_of (kind.Settle first size value) g = false

abbrev pub is_wanted : Option (Option Kind) → Given → Bool
is_wanted None g = false
is_wanted (Some None) g = false
is_wanted (Some (Some k)) g = is_of k g

-- `wanted` has each product that can still be delivered, with its kind, and None for the others
abbrev pub fits : List (Option Kind) → Arrival → Bool
fits wanted a = is_wanted (slice_get wanted a.product) a.given

-- it fits, and no arrival before it that fits is of its product
abbrev pub serves : List (Option Kind) → List Arrival → Arrival → Bool
serves wanted before a = fits wanted a && not (list_any (λ b. (b.product == a.product) && fits wanted b) before)

-- it stands among the arrivals, and is no stray
abbrev pub Serves : List (Option Kind) → List Arrival → Arrival → Type 0
Serves wanted all a = (before : List Arrival) × (after : List Arrival) × (all ≡ before ++ a ∷ after) × (serves wanted before a ≡ true)

-- what was delivered since `made` are arrivals that are no strays
abbrev pub Delivers : List (Option Kind) → List Arrival → List Arrival → List Arrival → Type 0
Delivers wanted all made now = (added : List Arrival) × (now ≡ made ++ added) × All (Serves wanted all) added

abbrev pub is_stray_as : List (Option Kind) → List Arrival → Option Arrival → Bool
is_stray_as wanted before None = false
is_stray_as wanted before (Some a) = not (serves wanted before a)

-- whether a stray stands at the place
abbrev pub is_stray : List (Option Kind) → List Arrival → ℕ → Bool
is_stray wanted all i = is_stray_as wanted (take i all) (slice_get all i)

-- the indices of the strays, ascending
abbrev pub strays_of : List (Option Kind) → List Arrival → List ℕ
strays_of wanted all = filter (is_stray wanted all) (range_with_len 0 (length all))
