-- What the products of a job ask of its layout, and what is asked of the products themselves.
use Rattle.std.specs.Prelude.{◌≡◌, ℕ, true, IsTrue, slice_get, List, Some}
use Rattle.source_model.specs.declared.Static.{Static}
use Rattle.source_model.specs.declared.Kind.TheVariants as kind
use Rattle.source_model.specs.Used.{UsedBy, acts_at}
use Rattle.patch_layout.specs.Grid.{Grid, Demand, Open}
use Rattle.patch_layout.specs.Row.{IsUsed}

-- the qubits on which some rotation or measurement acts are among these, and where there is a rotation, rotations are asked for
pub record Covers (products : List Static) (w : Demand) : Type 0 where
  pub used : (q : ℕ) → UsedBy products q → IsUsed w.used q
  pub rotations : (p : ℕ) (s : Static) → slice_get products p ≡ Some s → s.kind ≡ kind.Rotation → w.rotations ≡ true

-- the layout is open for the products
abbrev pub IsOpenFor : Grid → List Static → Type 0
IsOpenFor g products = (w : Demand) × Covers products w × Open g w

-- each axis has a letter other than I, that of a settled product too
abbrev pub HaveLetters : List Static → Type 0
HaveLetters products = (p : ℕ) (s : Static) → slice_get products p ≡ Some s → (q : ℕ) × IsTrue (acts_at s.axis q)
