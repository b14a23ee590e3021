-- The built-in row layout, and all ancilla cells of a grid.
use Rattle.std.specs.Prelude.{◌≡◌, ◌≢◌, ℕ, zero, suc, Bool, true, ◌+◌, ◌*◌, ◌<◌, ◌≤◌, slice_get, length, replicate, List, [], ◌∷◌, ◌++◌, Option, Some, IfSome, Contains}
use Rattle.pauli_product.specs.declared.Letter.{Letter}
use Rattle.pauli_product.specs.declared.Letter.TheVariants as letter
use Rattle.pauli_product.specs.Signed.{Signed}
use Rattle.patch_layout.specs.declared.layout.Site.{Site}
use Rattle.patch_layout.specs.declared.layout.Site.TheVariants as site
use Rattle.patch_layout.specs.declared.fault.LayoutFault.{LayoutFault}
use Rattle.patch_layout.specs.declared.fault.LayoutFault.TheVariants as fault
use Rattle.patch_layout.specs.Grid.{Grid, Demand, Open, IsAncilla, IsPort}
use Rattle.patch_layout.specs.Region.{Fit}
use Rattle.patch_layout.specs.Case.{Ascending}

-- a level patch for each of n qubits from q on, and then the port of factory 0 with a store of 1, each after an ancilla cell
abbrev pub patch_row : ℕ → ℕ → List Site
patch_row q zero = site.Ancilla ∷ site.Port 0 true 1 ∷ []
patch_row q (suc n) = site.Ancilla ∷ site.Patch q true ∷ patch_row (q + 1) n

-- the row layout for n qubits: a row of 2 n + 2 ancilla cells, and below it the patches and the port
abbrev pub row_grid : ℕ → Grid
row_grid n = record { rows = 2; columns = 2 * n + 2; sites = replicate (2 * n + 2) site.Ancilla ++ patch_row 0 n }

abbrev pub demand : List Bool → Bool → Demand
demand used rotations = record { used = used; rotations = rotations }

abbrev pub IsUsed : List Bool → ℕ → Type 0
IsUsed used q = slice_get used q ≡ Some true

-- of the used qubits from number n on it is the least
abbrev pub LeastUsedFrom : ℕ → List Bool → ℕ → Type 0
LeastUsedFrom n used q = (n ≤ q) × IsUsed used q × ((p : ℕ) → n ≤ p → IsUsed used p → q ≤ p)

-- the row layout has 64 patches at most, and is refused for the least used qubit past them
abbrev pub RowRefused : List Bool → LayoutFault → Type 0
RowRefused used (fault.PatchMissing qubit) = LeastUsedFrom 64 used qubit
RowRefused used fault.Memory = Unit {0}
RowRefused used _ = ⊥

-- the numbers of the ancilla cells, where the first site has the number c
abbrev pub ancilla_from : ℕ → List Site → List ℕ
ancilla_from c [] = []
ancilla_from c (site.Ancilla ∷ ss) = c ∷ ancilla_from (c + 1) ss
ancilla_from c (_ ∷ ss) = ancilla_from (c + 1) ss

-- all ancilla cells, ascending
abbrev pub ancilla_cells : Grid → List ℕ
ancilla_cells g = ancilla_from 0 g.sites

-- each letter other than I stands at a used qubit
abbrev pub StandsAtUsed : Signed → List Bool → Type 0
StandsAtUsed axis used = (q : ℕ) (l : Letter) → slice_get axis.letters q ≡ Some l → l ≢ letter.I → IsUsed used q

-- the grid has the port that is named
abbrev pub HasNamed : Grid → Option ℕ → Type 0
HasNamed g port = IfSome port (λ f. (c : ℕ) × IsPort g f c)

-- all ancilla cells of a grid that is open for what is wanted fit every axis on used qubits, and every port that is there
abbrev pub WholeFits : Type 0
WholeFits = (g : Grid) (w : Demand) (axis : Signed) (port : Option ℕ) → Open g w → StandsAtUsed axis w.used → HasNamed g port
    → 0 < length (ancilla_cells g) → Fit g axis port (ancilla_cells g)

-- they are the ancilla cells, and ascend
abbrev pub WholeAscends : Type 0
WholeAscends = (g : Grid) → Ascending (ancilla_cells g)

abbrev pub WholeIsAncilla : Type 0
WholeIsAncilla = (g : Grid) (c : ℕ) → IsAncilla g c → Contains (ancilla_cells g) c
