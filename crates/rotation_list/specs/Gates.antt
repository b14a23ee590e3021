-- The gates as turns about Pauli products, in time order (Litinski 2019, section 1; qelib1.inc for the names).
use Rattle.std.specs.Prelude.{ℕ, Bool, true, false, List, [], ◌∷◌, replicate, slice_set}
use Rattle.pauli_product.specs.declared.Letter.{Letter}
use Rattle.pauli_product.specs.declared.Letter.TheVariants.{I, X, Y, Z}
use Rattle.pauli_product.specs.Signed.{Signed}
use Rattle.source_model.specs.declared.Angle.{Angle}
use Rattle.source_model.specs.declared.Angle.TheVariants.{Eighth, Quarter, Half}
use Rattle.source_model.specs.declared.Item.{Item}
use Rattle.source_model.specs.declared.Item.TheVariants as item

-- one letter, on n qubits
unfoldable pub one_letter : ℕ → Bool → ℕ → Letter → Signed
one_letter n minus q l = record { sign = minus; letters = slice_set (replicate n I) q l }

-- two letters on two qubits, with sign +
unfoldable pub two_letters : ℕ → ℕ → Letter → ℕ → Letter → Signed
two_letters n a l b m = record { sign = false; letters = slice_set (slice_set (replicate n I) a l) b m }

-- a turn about one letter
abbrev pub turn_one : ℕ → Bool → ℕ → Letter → Angle → Item
turn_one n minus q l angle = item.Turn (one_letter n minus q l) angle

abbrev pub x_gate : ℕ → ℕ → List Item
x_gate n q = turn_one n false q X Half ∷ []

abbrev pub y_gate : ℕ → ℕ → List Item
y_gate n q = turn_one n false q Y Half ∷ []

abbrev pub z_gate : ℕ → ℕ → List Item
z_gate n q = turn_one n false q Z Half ∷ []

abbrev pub s_gate : ℕ → Bool → ℕ → List Item
s_gate n dagger q = turn_one n dagger q Z Quarter ∷ []

abbrev pub sx_gate : ℕ → Bool → ℕ → List Item
sx_gate n dagger q = turn_one n dagger q X Quarter ∷ []

abbrev pub t_gate : ℕ → Bool → ℕ → List Item
t_gate n dagger q = turn_one n dagger q Z Eighth ∷ []

abbrev pub h_gate : ℕ → ℕ → List Item
h_gate n q = turn_one n false q Z Quarter ∷ turn_one n false q X Quarter ∷ turn_one n false q Z Quarter ∷ []

-- a controlled letter: X for cx, Y for cy, Z for cz
abbrev pub controlled : ℕ → Letter → ℕ → ℕ → List Item
controlled n l c t = item.Turn (two_letters n c Z t l) Quarter ∷ turn_one n true t l Quarter ∷ turn_one n true c Z Quarter ∷ []

-- a measurement of +Z into a bit
abbrev pub measured : ℕ → ℕ → ℕ → List Item
measured n q bit = item.Measure (one_letter n false q Z) bit ∷ []

-- a gate that is applied where the bits of a register, the first with weight 1, give a value: X, Y or Z on the qubit
abbrev pub conditional : ℕ → Letter → ℕ → ℕ → ℕ → ℕ → List Item
conditional n l q first size value = item.If (one_letter n false q l) first size value ∷ []

-- a reset measures into this hidden bit, and turns the qubit where the bit is 1
abbrev pub reset_by : ℕ → ℕ → ℕ → List Item
reset_by n q bit = item.Measure (one_letter n false q Z) bit ∷ item.If (one_letter n false q X) bit 1 1 ∷ []
