-- The gates that the include makes known.
use Rattle.std.specs.Prelude.{ℕ, Bool, ◌&&◌, ◌||◌, not, is_some, if◌then◌else◌, List, codes, Option, Some, None}
use Rattle.std.specs.Str.{bytes_eq}
use Rattle.qasm_parse.specs.Words.{is_taken}
use Rattle.qasm_parse.specs.declared.known.Called.{Called}
use Rattle.qasm_parse.specs.declared.tree.Callee.{Callee}
use Rattle.qasm_parse.specs.declared.tree.Callee.TheVariants.{One, Two, Ccx, Swap}
use Rattle.qasm_parse.specs.declared.tree.Gate1.{Gate1}
use Rattle.qasm_parse.specs.declared.tree.Gate1.TheVariants as ones
use Rattle.qasm_parse.specs.declared.tree.Gate2.{Gate2}
use Rattle.qasm_parse.specs.declared.tree.Gate2.TheVariants as twos

-- a built-in gate with its number of qubits; its depth is 0
abbrev pub built : Callee → ℕ → Called
built gate arity = record { gate = gate; arity = arity; depth = 0 }

abbrev pub one : Gate1 → Option Called
one gate = Some (built (One gate) 1)

abbrev pub two : Gate2 → Option Called
two gate = Some (built (Two gate) 2)

-- the gate of `CX`, which is always known
abbrev pub cx : Called
cx = built (Two twos.Cx) 2

unfoldable pub larger_built_in : List ℕ → Option Called
larger_built_in name =
    if bytes_eq name (codes "cx") then two twos.Cx
    else if bytes_eq name (codes "cz") then two twos.Cz
    else if bytes_eq name (codes "cy") then two twos.Cy
    else if bytes_eq name (codes "ccx") then Some (built Ccx 3)
    else if bytes_eq name (codes "swap") then Some (built Swap 2)
    else if bytes_eq name (codes "sx") then one ones.Sx
    else if bytes_eq name (codes "sxdg") then one ones.Sxdg
    else None

-- the gate that the include makes known by a name
unfoldable pub built_in : List ℕ → Option Called
built_in name =
    if bytes_eq name (codes "id") then one ones.Id
    else if bytes_eq name (codes "x") then one ones.X
    else if bytes_eq name (codes "y") then one ones.Y
    else if bytes_eq name (codes "z") then one ones.Z
    else if bytes_eq name (codes "h") then one ones.H
    else if bytes_eq name (codes "s") then one ones.S
    else if bytes_eq name (codes "sdg") then one ones.Sdg
    else if bytes_eq name (codes "t") then one ones.T
    else if bytes_eq name (codes "tdg") then one ones.Tdg
    else larger_built_in name

-- a text may declare these itself, before or after the include
unfoldable pub may_be_own : List ℕ → Bool
may_be_own name = bytes_eq name (codes "swap") || bytes_eq name (codes "sx") || bytes_eq name (codes "sxdg")

-- a name that the include makes known or takes, so that a text with the include doesn't declare it
unfoldable pub is_barred : List ℕ → Bool
is_barred name = is_taken name || (is_some (built_in name) && not (may_be_own name))

-- the gate of one of the names that may stand under a condition
unfoldable pub pauli_of : List ℕ → Gate1
pauli_of name =
    if bytes_eq name (codes "x") then ones.X
    else if bytes_eq name (codes "y") then ones.Y
    else if bytes_eq name (codes "z") then ones.Z
    else ones.Id
