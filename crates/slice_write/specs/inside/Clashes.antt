-- Products placed by their slices.
use Rattle.std.specs.Prelude.{◌≡◌, ℕ, ◌<◌, ◌≤◌, not, filter, map, insert, List, length, All}
use Rattle.std.specs.List.Sorted.{IsNonDecreasingBy}
use Rattle.source_model.specs.declared.Static.{Static}
use Rattle.slice_write.specs.declared.placed.Placed.{Placed}
use Rattle.slice_write.specs.Slices.{greatest, commute_at}

-- the greatest slice among the placed products that don't commute with p
unfoldable pub greatest_clash : List Static → List Placed → ℕ → ℕ
greatest_clash products placed p = greatest (map (λ x. x.slice) (filter (λ x. not (commute_at products x.product p)) placed))

abbrev pub placed_at : ℕ → ℕ → Placed
placed_at n p = record { slice = n; product = p }

-- by ascending slices
pub record PlacedAre (products : List Static) (placed : List Placed) : Type 0 where
  pub sorted : IsNonDecreasingBy (λ x. x.slice) placed
  pub numbered : All (λ x. x.product < length products) placed

-- a product was placed among the others
abbrev pub Inserts : List Placed → List Placed → Placed → Type 0
Inserts was now x = (i : ℕ) × (i ≤ length was) × (now ≡ insert was i x)
