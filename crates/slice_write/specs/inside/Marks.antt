-- Claimed cells with their products.
use Rattle.std.specs.Prelude.{ℕ, ◌==◌, ◌<◌, ◌≤◌, if◌then◌else◌, slice_get, List, [], ◌∷◌, length, All, Option, Some, None}
use Rattle.patch_layout.specs.Grid.{Grid, IsAncilla, HasStore, tile_of}
use Rattle.board_core.specs.declared.Entry.{Entry}
use Rattle.board_core.specs.declared.Entry.TheVariants.{Claim, Deliver, Release, Step, Settle}
use Rattle.board_core.specs.History.{History}
use Rattle.slice_write.specs.declared.marks.Mark.{Mark}
use Rattle.slice_write.specs.Slices.{Sliced}
use Rattle.slice_write.specs.Pictures.{tile_text}

abbrev pub mark : ℕ → ℕ → Mark
mark p c = record { cell = c; product = p }

abbrev pub marked_by : Mark → ℕ → Option ℕ
marked_by m c = if m.cell == c then Some m.product else None

-- the product of the last mark on the cell
abbrev pub mark_at : List Mark → ℕ → Option ℕ
mark_at [] c = None
mark_at (m ∷ ms) c = elim (mark_at ms c) [ None ↦ marked_by m c | Some p ↦ Some p ]

abbrev pub with_mark : (ℕ → Option ℕ) → Mark → ℕ → Option ℕ
with_mark shown m c = if m.cell == c then Some m.product else shown c

-- what stands on the cell, and the product, are no wider than six columns
pub record IsNarrow (g : Grid) (m : Mark) : Type 0 where
  pub inside : m.cell < length g.sites
  pub tile : length (tile_text (tile_of (slice_get g.sites m.cell))) ≤ 6
  pub product : m.product < 1000000

-- an entry whose numbers have room in a picture and a line
abbrev pub HasRoom : Grid → Entry → Type 0
HasRoom g (Claim p axis through state cells) = (p < 1000000) × All (IsAncilla g) cells
HasRoom g (Deliver p h) = Unit {0}
HasRoom g (Release p) = Unit {0}
HasRoom g (Step f) = f < 16
HasRoom g (Settle p flip) = Unit {0}

-- factories have numbers below 16
abbrev pub FewFactories : Grid → Type 0
FewFactories g = (f store : ℕ) → HasStore g f store → f < 16

-- entries with their slices
abbrev pub paired : History → List ℕ → List Sliced
paired [] ns = []
paired (e ∷ es) [] = []
paired (e ∷ es) (n ∷ ns) = (e, n) ∷ paired es ns
