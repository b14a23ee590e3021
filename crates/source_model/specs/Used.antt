-- Which qubits a circuit's products use.
use Rattle.std.specs.Prelude.{ℕ, Bool, true, false, IsTrue, ◌&&◌, ◌||◌, List, [], ◌∷◌, slice_index_or}
use Rattle.pauli_product.specs.declared.Letter.{Letter}
use Rattle.pauli_product.specs.declared.Letter.TheVariants.{I, X, Y, Z}
use Rattle.pauli_product.specs.Signed.{Signed}
use Rattle.source_model.specs.declared.Kind.{Kind}
use Rattle.source_model.specs.declared.Kind.TheVariants as kind
use Rattle.source_model.specs.declared.Static.{Static}

-- a letter other than I
abbrev pub acts : Letter → Bool
acts I = false
acts X = true
acts Y = true
acts Z = true

-- whether a product has a letter other than I at a qubit
abbrev pub acts_at : Signed → ℕ → Bool
acts_at p q = acts (slice_index_or p.letters q I)

-- rotations and measurements take a region of the grid, and settled products don't
abbrev pub takes_region : Kind → Bool
takes_region kind.Rotation = true
takes_region (kind.Measure bit) = true
takes_region (kind.Settle first size value) = false

-- whether the static axis of some rotation or measurement has a letter other than I at a qubit
abbrev pub is_used : List Static → ℕ → Bool
is_used [] q = false
is_used (s ∷ ss) q = (takes_region s.kind && acts_at s.axis q) || is_used ss q

-- a qubit that the products use
abbrev pub UsedBy : List Static → ℕ → Type 0
UsedBy products q = IsTrue (is_used products q)
