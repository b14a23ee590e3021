-- How the plain program keeps a run: its turns as a list, and its bits as a table.
use Rattle.std.specs.Prelude.{◌≡◌, ℕ, Bool, false, if◌then◌else◌, List, Option, Some, None, slice_index_or}
use Rattle.pauli_product.specs.Signed.{Signed}
use Rattle.pauli_product.specs.Pulls.{Angle, quarter, half, Turn, pull}
use Rattle.source_model.specs.declared.Given.{Given}
use Rattle.source_model.specs.declared.Item.{Item}
use Rattle.source_model.specs.Outcomes.{bit_of}
use Rattle.source_model.specs.SourceRun.{Progress, after, is_product, axis_of}

-- the angle of a Clifford rotation
abbrev pub clifford_angle : Bool → Angle
clifford_angle is_half = if is_half then half else quarter

-- the turns of the run, and the value of each bit; a bit past the table is unwritten
pub record Keeps (f : Progress) (turns : List Turn) (bits : List Bool) : Type 0 where
  pub same_turns : turns ≡ f.turns
  pub same_bits : (b : ℕ) → slice_index_or bits b false ≡ bit_of f.writes b

-- the axis of an item's product after these turns
abbrev pub product_axis : List Turn → Item → Option Signed
product_axis turns i = if is_product i then Some (pull turns (axis_of i)) else None

-- an item with this outcome takes what is kept from one state to another
abbrev pub Carries : Item → Given → List Turn → List Bool → List Turn → List Bool → Type 0
Carries i g turns bits turns' bits' = (f : Progress) → Keeps f turns bits → Keeps (after f i g) turns' bits'
