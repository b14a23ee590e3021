-- Steps of the reading of a layout text.
use Rattle.std.specs.Prelude.{◌≡◌, ◌≢◌, ◌⊎◌, ℕ, ◌+◌, ◌<◌, Bool, List, [], ◌∷◌, length, slice_get, decimal, Contains, Option, Some, MatchOption}
use Rattle.patch_layout.specs.declared.line.Line.{Line}
use Rattle.patch_layout.specs.declared.line.Line.TheVariants as line
use Rattle.patch_layout.specs.declared.layout.Site.{Site}
use Rattle.patch_layout.specs.declared.layout.Site.TheVariants as site
use Rattle.patch_layout.specs.declared.fault.LayoutFault.{LayoutFault}
use Rattle.patch_layout.specs.declared.fault.LayoutFault.TheVariants as fault
use Rattle.patch_layout.specs.Spread.{Marked}
use Rattle.patch_layout.specs.Openness.{Least}
use Rattle.patch_layout.specs.LayoutText.{InRange, side_word, cell_of, site_of, Doubles, BadBody, FirstBadText, Sized, Twice}

-- what a line has after its first word

abbrev pub PatchAfter : List (List ℕ) → Line → Type 0
PatchAfter ws (line.Patch qubit cell level) = (ws ≡ decimal qubit ∷ decimal cell ∷ side_word level ∷ []) × InRange (line.Patch qubit cell level)
PatchAfter ws _ = ⊥

abbrev pub PortAfter : List (List ℕ) → Line → Type 0
PortAfter ws (line.Port factory cell level store) = (ws ≡ decimal factory ∷ decimal cell ∷ side_word level ∷ decimal store ∷ []) × InRange (line.Port factory cell level store)
PortAfter ws _ = ⊥

abbrev pub WallAfter : List (List ℕ) → Line → Type 0
WallAfter ws (line.Wall cell) = (ws ≡ decimal cell ∷ []) × InRange (line.Wall cell)
WallAfter ws _ = ⊥

-- a line before has the line's qubit or factory, by the marks
abbrev pub HasKey : List Bool → List Bool → Line → Type 0
HasKey qubits factories (line.Patch qubit cell level) = Marked qubits qubit
HasKey qubits factories (line.Port factory cell level store) = Marked factories factory
HasKey qubits factories (line.Wall cell) = ⊥

-- the marks are of the qubits and factories that the lines have
pub record Keyed (before : List Line) (qubits factories : List Bool) : Type 0 where
  pub qubits_size : length qubits ≡ 1024
  pub factories_size : length factories ≡ 16
  pub had : (l : Line) → HasKey qubits factories l → (other : Line) × Contains before other × Doubles other l
  pub has : (l other : Line) → Contains before other → Doubles other l → HasKey qubits factories l

-- why the text lines after the first one are refused
abbrev pub BodyRefused : List (List ℕ) → LayoutFault → Type 0
BodyRefused texts (fault.Form line) = (n : ℕ) × (line ≡ n + 2) × BadBody [] texts n
BodyRefused texts fault.Memory = Unit {0}
BodyRefused texts _ = ⊥

-- why a text is refused before its cells are looked at
abbrev pub FormRefused : List (List ℕ) → LayoutFault → Type 0
FormRefused texts (fault.Form line) = (n : ℕ) × (line ≡ n + 1) × FirstBadText texts n
FormRefused texts fault.Memory = Unit {0}
FormRefused texts _ = ⊥

-- no two of the lines have one qubit or factory, and each is in range
pub record Proper (ls : List Line) : Type 0 where
  pub ranged : (l : Line) → Contains ls l → InRange l
  pub distinct : (i j : ℕ) (k l : Line) → i < j → slice_get ls i ≡ Some k → slice_get ls j ≡ Some l → Doubles k l → ⊥

-- two of the first n lines name the cell
abbrev pub TwiceTo : List Line → ℕ → ℕ → Type 0
TwiceTo ls n c = (i j : ℕ) × (k l : Line) × (i < j) × (j < n) × (slice_get ls i ≡ Some k) × (slice_get ls j ≡ Some l) × (cell_of k ≡ c) × (cell_of l ≡ c)

-- none of the first n lines names the cell, which is an ancilla cell, or one of them does and made it what it is
abbrev pub CellIs : List Line → ℕ → List Site → ℕ → Type 0
CellIs ls n sites c =
    ((slice_get sites c ≡ Some site.Ancilla) × ((i : ℕ) (l : Line) → i < n → slice_get ls i ≡ Some l → cell_of l ≢ c))
    ⊎ ((i : ℕ) × (l : Line) × (i < n) × (slice_get ls i ≡ Some l) × (cell_of l ≡ c) × (slice_get sites c ≡ Some (site_of l)))

-- the sites that the first n lines make, and the least cell that two of them name
pub record Lays (ls : List Line) (n : ℕ) (sites : List Site) (double : Option ℕ) : Type 0 where
  pub cells : (c : ℕ) → c < length sites → CellIs ls n sites c
  pub least : MatchOption double ((c : ℕ) → TwiceTo ls n c → ⊥) (Least (TwiceTo ls n))

-- why lines make no grid
abbrev pub GridRefused : ℕ → ℕ → List Line → LayoutFault → Type 0
GridRefused rows columns ls fault.Size = Sized rows columns ls → ⊥
GridRefused rows columns ls (fault.Overlap cell) = Sized rows columns ls × Least (Twice ls) cell
GridRefused rows columns ls fault.Memory = Unit {0}
GridRefused rows columns ls _ = ⊥
