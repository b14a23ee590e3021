-- The bits that the outcomes of a history leave.
use Rattle.std.specs.Prelude.{◌≡◌, Bool, List}
use Rattle.source_model.specs.declared.Circuit.{Circuit}
use Rattle.source_model.specs.declared.Given.{Given}
use Rattle.source_model.specs.Bits.{bits_after}
use Rattle.source_model.specs.Circuits.{RightKinds}
use Rattle.patch_layout.specs.Grid.{Grid}
use Rattle.magic_pool.specs.declared.Fail.{Fail}
use Rattle.board_core.specs.History.{History}
use Rattle.board_core.specs.Headline.{IsOneLegalHistory}

-- the bits are those of the source run, for every table for which this is one legal history of the circuit
abbrev pub LeavesBits : Circuit → History → List Bool → Type 0
LeavesBits c h bits =
    (grid : Grid) (fails : List Fail) (table : List Given) → RightKinds c.items table → IsOneLegalHistory c.items grid fails table h →
    bits ≡ bits_after c.registers c.items table
