-- What is asked of flat operations and of registers.
use Rattle.std.specs.Prelude.{ℕ, ◌<◌, ◌≤◌, List, length, slice_range, All}
use Rattle.source_model.specs.Circuits.{IsOneLine}
use Rattle.qasm_parse.specs.declared.tree.Declared.{Declared}
use Rattle.qasm_parse.specs.declared.tree.Tree.{Tree}
use Rattle.qasm_expand.specs.declared.flat.Flat.{Flat}
use Rattle.qasm_expand.specs.declared.flat.Flat.TheVariants as flats

-- an operation acts on the first so many qubits
abbrev pub ActsBelow : ℕ → Flat → Type 0
ActsBelow n (flats.Gate1 gate q) = q < n
ActsBelow n (flats.Gate2 gate a b) = (a < n) × (b < n)
ActsBelow n (flats.Measure q bit) = q < n
ActsBelow n (flats.Reset q) = q < n
ActsBelow n (flats.If gate q first size value) = q < n

-- the name of a register stands in the text, on one line
pub record IsNamed (text : List ℕ) (d : Declared) : Type 0 where
  pub ordered : d.start ≤ d.end
  pub within : d.end ≤ length text
  pub one_line : IsOneLine (slice_range text d.start d.end)

-- few registers, each with its name
pub record HasNames (text : List ℕ) (tree : Tree) : Type 0 where
  pub few : length tree.classical ≤ 64
  pub named : All (IsNamed text) tree.classical
