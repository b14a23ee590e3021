-- What a board notes of its history, so that no call goes through it.
use Rattle.std.specs.Prelude.{◌≡◌, ℕ, ◌<◌, ◌↔◌, slice_get, List, length, Option, Some}
use Rattle.source_model.specs.declared.Kind.{Kind}
use Rattle.source_model.specs.declared.Kind.TheVariants as kind
use Rattle.patch_layout.specs.Grid.{Grid, HasStore}
use Rattle.magic_pool.specs.declared.Maker.{Maker}
use Rattle.magic_pool.specs.Pooled.{store_of}
use Rattle.board_core.specs.declared.board.Standing.{Standing}
use Rattle.board_core.specs.History.{History, claim_place, done_place, release_place}
use Rattle.board_core.specs.Legal.{BoardJob, Holds}

-- a rotation or a measurement, and not a settled product
abbrev pub TakesRegion : Kind → Type 0
TakesRegion kind.Rotation = Unit {0}
TakesRegion (kind.Measure bit) = Unit {0}
TakesRegion (kind.Settle first size value) = ⊥

-- the places of a product's entries
abbrev pub standing_of : History → ℕ → Standing
standing_of h p = record { claim = claim_place h p; deliver = done_place h p; release = release_place h p }

-- who holds each cell
abbrev pub HoldersAre : BoardJob → History → List (Option ℕ) → Type 0
HoldersAre j h holders =
    (length holders ≡ length j.grid.sites)
    × ((c q : ℕ) → c < length j.grid.sites → (slice_get holders c ≡ Some (Some q)) ↔ Holds j.grid h q c)

-- the factories of a pool are those of the layout, with their stores
abbrev pub HasMakersOf : Grid → List Maker → Type 0
HasMakersOf g makers = (f store : ℕ) → HasStore g f store ↔ ((store_of makers f ≡ store) × (0 < store))
