-- What a layout text stands for, and the first rule that another text breaks.
use Rattle.std.specs.Prelude.{◌≡◌, ◌≢◌, ◌⊎◌, ℕ, zero, suc, Bool, ◌+◌, ◌*◌, ◌<◌, ◌≤◌, ◌^◌, slice_get, List, [], ◌∷◌, ◌++◌, length, codes, decimal, Contains, Some, if◌then◌else◌}
use Rattle.patch_base.specs.Texts.{lines, words, IsSkipped}
use Rattle.patch_layout.specs.declared.line.Line.{Line}
use Rattle.patch_layout.specs.declared.line.Line.TheVariants as line
use Rattle.patch_layout.specs.declared.layout.Site.{Site}
use Rattle.patch_layout.specs.declared.layout.Site.TheVariants as site
use Rattle.patch_layout.specs.declared.fault.LayoutFault.{LayoutFault}
use Rattle.patch_layout.specs.declared.fault.LayoutFault.TheVariants as fault
use Rattle.patch_layout.specs.Grid.{Grid, Demand, IsAncilla}
use Rattle.patch_layout.specs.Openness.{Least, Opens}

-- the X sides lie left and right, or above and below
abbrev pub side_word : Bool → List ℕ
side_word level = if level then codes "h" else codes "v"

-- the words of a line
abbrev pub words_of : Line → List (List ℕ)
words_of (line.Patch qubit cell level) = codes "patch" ∷ decimal qubit ∷ decimal cell ∷ side_word level ∷ []
words_of (line.Port factory cell level store) = codes "port" ∷ decimal factory ∷ decimal cell ∷ side_word level ∷ decimal store ∷ []
words_of (line.Wall cell) = codes "wall" ∷ decimal cell ∷ []

-- its numbers are in their ranges
abbrev pub InRange : Line → Type 0
InRange (line.Patch qubit cell level) = (qubit < 1024) × (cell < 2 ^ 32)
InRange (line.Port factory cell level store) = (factory < 16) × (cell < 2 ^ 32) × (1 ≤ store) × (store ≤ 16)
InRange (line.Wall cell) = cell < 2 ^ 32

-- the text line spells this line
abbrev pub Spells : List ℕ → Line → Type 0
Spells text l = (words text ≡ words_of l) × InRange l

-- the cell that a line names, and what it makes of it
abbrev pub cell_of : Line → ℕ
cell_of (line.Patch qubit cell level) = cell
cell_of (line.Port factory cell level store) = cell
cell_of (line.Wall cell) = cell

abbrev pub site_of : Line → Site
site_of (line.Patch qubit cell level) = site.Patch qubit level
site_of (line.Port factory cell level store) = site.Port factory level store
site_of (line.Wall cell) = site.Wall

-- two lines have one qubit, or one factory
abbrev pub Doubles : Line → Line → Type 0
Doubles (line.Patch q c l) (line.Patch r d m) = q ≡ r
Doubles (line.Port f c l s) (line.Port g d m t) = f ≡ g
Doubles _ _ = ⊥

-- its qubit or factory is that of none of these lines
abbrev pub Fresh : List Line → Line → Type 0
Fresh before l = (other : Line) → Contains before other → Doubles other l → ⊥

-- a text line after these lines is passed over, or spells a fresh line that is added to them
abbrev pub Takes : List Line → List ℕ → List Line → Type 0
Takes before text after = (IsSkipped text × (after ≡ before)) ⊎ ((l : Line) × Spells text l × Fresh before l × (after ≡ before ++ l ∷ []))

-- it does neither
abbrev pub Breaks : List Line → List ℕ → Type 0
Breaks before text = (IsSkipped text → ⊥) × ((l : Line) → Spells text l → Fresh before l → ⊥)

-- the text lines after these lines add to them one after another, and all of them are then these
abbrev pub Body : List Line → List (List ℕ) → List Line → Type 0
Body before [] all = all ≡ before
Body before (text ∷ texts) all = (after : List Line) × Takes before text after × Body after texts all

-- the first text line that breaks the form has this place among them
abbrev pub BadBody : List Line → List (List ℕ) → ℕ → Type 0
BadBody before [] n = ⊥
BadBody before (text ∷ texts) zero = Breaks before text
BadBody before (text ∷ texts) (suc n) = (after : List Line) × Takes before text after × BadBody after texts n

-- the first line of a text, which has the number of the format, 1
abbrev pub Header : ℕ → ℕ → List ℕ → Type 0
Header rows columns text = (words text ≡ codes "layout" ∷ codes "1" ∷ decimal rows ∷ decimal columns ∷ []) × (rows < 2 ^ 32) × (columns < 2 ^ 32)

-- the texts are a header with these rows and columns, and these lines
abbrev pub Formed : List (List ℕ) → ℕ → ℕ → List Line → Type 0
Formed [] rows columns ls = ⊥
Formed (head ∷ rest) rows columns ls = Header rows columns head × Body [] rest ls

-- the place of the first text that breaks the form; where there is none at all, that of the header
abbrev pub FirstBadText : List (List ℕ) → ℕ → Type 0
FirstBadText [] n = n ≡ 0
FirstBadText (head ∷ rest) zero = (rows columns : ℕ) → Header rows columns head → ⊥
FirstBadText (head ∷ rest) (suc n) = ((rows : ℕ) × (columns : ℕ) × Header rows columns head) × BadBody [] rest n

-- there are 1 to 4,096 cells, and each line names one of them
pub record Sized (rows columns : ℕ) (ls : List Line) : Type 0 where
  pub some : 0 < rows * columns
  pub few : rows * columns ≤ 4096
  pub within : (l : Line) → Contains ls l → cell_of l < rows * columns

-- two of the lines name the cell
abbrev pub Twice : List Line → ℕ → Type 0
Twice ls c = (i j : ℕ) × (k l : Line) × (i < j) × (slice_get ls i ≡ Some k) × (slice_get ls j ≡ Some l) × (cell_of k ≡ c) × (cell_of l ≡ c)

-- the grid in which each line makes its cell what it says, and all other cells are ancilla cells
pub record Laid (rows columns : ℕ) (ls : List Line) (g : Grid) : Type 0 where
  pub rows_are : g.rows ≡ rows
  pub columns_are : g.columns ≡ columns
  pub cells : length g.sites ≡ rows * columns
  pub named : (l : Line) → Contains ls l → slice_get g.sites (cell_of l) ≡ Some (site_of l)
  pub others : (c : ℕ) → c < rows * columns → ((l : Line) → Contains ls l → cell_of l ≢ c) → IsAncilla g c

-- at most 4 MiB
abbrev pub IsShort : List ℕ → Type 0
IsShort text = length text ≤ 4194304

-- the text stands for this grid
abbrev pub StandsFor : List ℕ → Grid → Type 0
StandsFor text g = (rows : ℕ) × (columns : ℕ) × (ls : List Line) × IsShort text × Formed (lines text) rows columns ls × Sized rows columns ls × ((c : ℕ) → Twice ls c → ⊥) × Laid rows columns ls g

-- the first rule that a text breaks for what it must serve
abbrev pub Refused : List ℕ → Demand → LayoutFault → Type 0
Refused text w fault.TooLong = 4194304 < length text
Refused text w (fault.Form line) = IsShort text × ((n : ℕ) × (line ≡ n + 1) × FirstBadText (lines text) n)
Refused text w fault.Size = IsShort text × ((rows : ℕ) × (columns : ℕ) × (ls : List Line) × Formed (lines text) rows columns ls × (Sized rows columns ls → ⊥))
Refused text w (fault.Overlap cell) = IsShort text × ((rows : ℕ) × (columns : ℕ) × (ls : List Line) × Formed (lines text) rows columns ls × Sized rows columns ls × Least (Twice ls) cell)
Refused text w (fault.PatchMissing qubit) = (g : Grid) × StandsFor text g × Opens g w (Some (fault.PatchMissing qubit))
Refused text w (fault.Split cell) = (g : Grid) × StandsFor text g × Opens g w (Some (fault.Split cell))
Refused text w (fault.Shut qubit edge) = (g : Grid) × StandsFor text g × Opens g w (Some (fault.Shut qubit edge))
Refused text w fault.NoPort = (g : Grid) × StandsFor text g × Opens g w (Some fault.NoPort)
Refused text w (fault.ShutPort factory) = (g : Grid) × StandsFor text g × Opens g w (Some (fault.ShutPort factory))
Refused text w fault.Memory = Unit {0}
