-- What a circuit asks of a layout.
use Rattle.std.specs.Prelude.{◌≡◌, ℕ, ◌<◌, Bool, true, false, Some, List, length, slice_get}
use Rattle.std.specs.List.{list_any}
use Rattle.patch_base.specs.declared.need.Need.{Need}
use Rattle.source_model.specs.Used.{is_used}
use Rattle.source_model.specs.declared.Kind.TheVariants as kind
use Rattle.source_model.specs.declared.Static.{Static}

abbrev pub is_rotation : Static → Bool
is_rotation s = elim s.kind [ kind.Rotation ↦ true | kind.Measure bit ↦ false | kind.Settle first size value ↦ false ]

-- the qubits, which of them the static axes of rotations and measurements use, and whether there are rotations
pub record IsNeedOf (qubits : ℕ) (products : List Static) (need : Need) : Type 0 where
  pub qubits_are : need.qubits ≡ qubits
  pub one_each : length need.used ≡ qubits
  pub used : (q : ℕ) → q < qubits → slice_get need.used q ≡ Some (is_used products q)
  pub rotations : need.rotations ≡ list_any is_rotation products
