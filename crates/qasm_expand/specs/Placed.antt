-- What flat operations act on.
use Rattle.std.specs.Prelude.{◌≡◌, ◌≢◌, true, ◌<◌}
use Rattle.qasm_parse.specs.declared.tree.Tree.{Tree}
use Rattle.qasm_expand.specs.declared.flat.Flat.{Flat}
use Rattle.qasm_expand.specs.declared.flat.Flat.TheVariants.{Gate1, Gate2, Measure, Reset, If}
use Rattle.qasm_expand.specs.Sound.{members, IsRegister, is_conditional}

-- an operation acts on qubits of the tree, on two qubits where it has two, and on bits of the tree; a condition reads a whole register
abbrev pub IsPlaced : Tree → Flat → Type 0
IsPlaced tree (Gate1 gate q) = q < members tree.quantum
IsPlaced tree (Gate2 gate a b) = (a < members tree.quantum) × (b < members tree.quantum) × (a ≢ b)
IsPlaced tree (Measure q bit) = (q < members tree.quantum) × (bit < members tree.classical)
IsPlaced tree (Reset q) = q < members tree.quantum
IsPlaced tree (If gate q first size value) = (q < members tree.quantum) × IsRegister tree.classical first size × (is_conditional gate ≡ true)
