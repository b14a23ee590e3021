-- What `lower` and `layout` write.
use Rattle.std.specs.Prelude.{ℕ, List, ◌++◌, codes, decimal}
use Rattle.patch_layout.specs.Grid.{Grid}
use Rattle.slice_write.specs.Pictures.{picture, nobody}

-- the size of a layout, and its picture without claims
abbrev pub shown : Grid → List ℕ
shown g = (codes "open " ++ decimal g.rows) ++ (codes " " ++ decimal g.columns) ++ codes "\n" ++ picture g nobody
