-- The tables of a layout: columns, patches and ports.
use Rattle.std.specs.Prelude.{◌≡◌, ℕ, ◌%◌, ◌<◌, Bool, List, Option, Some, slice_get, length}
use Rattle.patch_layout.specs.declared.layout.Site.{Site}
use Rattle.patch_layout.specs.declared.layout.Site.TheVariants as site
use Rattle.patch_layout.specs.Grid.{Grid, Sound, IsPatch, IsPort}

-- the table has the column of each of the first n cells
abbrev pub HasColumns : ℕ → ℕ → List ℕ → Type 0
HasColumns columns n table = (c : ℕ) → c < n → slice_get table c ≡ Some (c % columns)

-- the grid is sound, and the three tables have each cell's column, the cell of each qubit's patch and that of each factory's port
pub record Kept (g : Grid) (column_of : List ℕ) (patches : List (Option ℕ)) (ports : List (Option ℕ)) : Type 0 where
  pub sound : Sound g
  pub columns : HasColumns g.columns (length g.sites) column_of
  pub patch : (q c : ℕ) → IsPatch g q c → slice_get patches q ≡ Some (Some c)
  pub is_patch : (q c : ℕ) → slice_get patches q ≡ Some (Some c) → IsPatch g q c
  pub port : (f c : ℕ) → IsPort g f c → slice_get ports f ≡ Some (Some c)
  pub is_port : (f c : ℕ) → slice_get ports f ≡ Some (Some c) → IsPort g f c
  pub factories : length ports ≡ 16

-- the tables have the patches and ports of the first n cells
pub record Noted (sites : List Site) (n : ℕ) (patches : List (Option ℕ)) (ports : List (Option ℕ)) : Type 0 where
  pub patch : (q c : ℕ) (level : Bool) → c < n → slice_get sites c ≡ Some (site.Patch q level) → slice_get patches q ≡ Some (Some c)
  pub is_patch : (q c : ℕ) → slice_get patches q ≡ Some (Some c) → (c < n) × ((level : Bool) × (slice_get sites c ≡ Some (site.Patch q level)))
  pub port : (f c : ℕ) (level : Bool) (store : ℕ) → c < n → slice_get sites c ≡ Some (site.Port f level store) → slice_get ports f ≡ Some (Some c)
  pub is_port : (f c : ℕ) → slice_get ports f ≡ Some (Some c) → (c < n) × ((level : Bool) × (store : ℕ) × (slice_get sites c ≡ Some (site.Port f level store)))
