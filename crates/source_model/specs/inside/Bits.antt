-- A table of bits against those of the run.
use Rattle.std.specs.Prelude.{◌≡◌, ℕ, Bool, false, List, slice_index_or}
use Rattle.source_model.specs.declared.Given.{Given}
use Rattle.source_model.specs.declared.Item.{Item}
use Rattle.source_model.specs.SourceRun.{bit_after}

-- a table of the bits after the run; a bit past the table is unwritten
abbrev pub BitsAre : List Bool → List Item → List Given → Type 0
BitsAre bits items gs = (b : ℕ) → slice_index_or bits b false ≡ bit_after items gs b
