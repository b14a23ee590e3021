-- The laws of layouts, regions and their certificates.
use Rattle.std.specs.Prelude.{◌≡◌, ◌⊎◌, ℕ, ◌+◌, ◌*◌, ◌<◌, Option, is_some, length, List}
use Rattle.pauli_product.specs.Signed.{Signed}
use Rattle.patch_layout.specs.declared.plan.Parent.{Parent}
use Rattle.patch_layout.specs.declared.layout.Side.{Side}
use Rattle.patch_layout.specs.declared.fault.LayoutFault.{LayoutFault}
use Rattle.patch_layout.specs.declared.fault.LayoutFault.TheVariants as fault
use Rattle.patch_layout.specs.Grid.{Grid, Demand, Sound, Adjacent, IsAncilla, IsPatch}
use Rattle.patch_layout.specs.Region.{Fit, OnSide}
use Rattle.patch_layout.specs.Certificate.{Case, Certified}
use Rattle.patch_layout.specs.Case.{case, Ascending}
use Rattle.patch_layout.specs.Row.{row_grid}
use Rattle.patch_layout.specs.LayoutText.{StandsFor, Refused}

-- ascending cells that fit have parents and touches that keep every rule of the check
abbrev pub FitsHaveCertificates : Type 0
FitsHaveCertificates = (g : Grid) (axis : Signed) (port : Option ℕ) (cells : List ℕ) →
    Sound g → Ascending cells → Fit g axis port cells →
    (parents : List Parent) × (touches : List ℕ) ×
    Certified (case g (is_some port) axis port cells parents touches)

-- where a certificate keeps every rule, the region fits
abbrev pub CertifiedFits : Type 0
CertifiedFits = (c : Case) → Sound c.grid → Certified c → Fit c.grid c.axis c.port c.cells

-- and its cells ascend
abbrev pub CertifiedAscends : Type 0
CertifiedAscends = (c : Case) → Certified c → Ascending c.cells

-- a cell is a neighbour of each of its neighbours
abbrev pub NeighboursAreMutual : Type 0
NeighboursAreMutual = (g : Grid) (a b : ℕ) → a < length g.sites → Adjacent g a b → Adjacent g b a

-- the cells on a side are ancilla cells
abbrev pub SidesAreAncilla : Type 0
SidesAreAncilla = (g : Grid) (s : Side) (c : ℕ) → OnSide g s c → IsAncilla g c

-- the row layout has no patches but those of its qubits, each at its place in the second row
abbrev pub RowPatchesStand : Type 0
RowPatchesStand = (n q c : ℕ) → IsPatch (row_grid n) q c →
    (q < n) × (c ≡ 2 * n + 2 + (2 * q + 1))

-- the faults of a text's form
abbrev pub OfForm : LayoutFault → Type 0
OfForm fault.TooLong = Unit {0}
OfForm (fault.Form line) = Unit {0}
OfForm fault.Size = Unit {0}
OfForm (fault.Overlap cell) = Unit {0}
OfForm _ = ⊥

-- each text stands for a grid, or is refused for its form, whatever it must serve
abbrev pub GridOrFault : Type 0
GridOrFault = (text : List ℕ) →
    ((g : Grid) × StandsFor text g)
    ⊎ ((f : LayoutFault) × OfForm f × ((w : Demand) → Refused text w f))

-- a text that stands for a grid isn't refused for its form
abbrev pub NotBoth : Type 0
NotBoth = (text : List ℕ) (g : Grid) (w : Demand) (f : LayoutFault) →
    StandsFor text g → OfForm f → Refused text w f → ⊥

-- a text stands for one grid at most
abbrev pub OneGrid : Type 0
OneGrid = (text : List ℕ) (g h : Grid) → StandsFor text g → StandsFor text h → g ≡ h

-- a text is refused for its form with one fault at most, whatever it must serve
abbrev pub OneFault : Type 0
OneFault = (text : List ℕ) (v w : Demand) (e f : LayoutFault) →
    OfForm e → OfForm f → Refused text v e → Refused text w f → e ≡ f
