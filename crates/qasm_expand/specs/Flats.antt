-- The flat operations of a tree: each call is replaced by the body of what it calls.
use Rattle.std.specs.Prelude.{ℕ, List, [], ◌∷◌, ◌++◌, map, flat_map, slice_get, slice_index, unwrap_or}
use Rattle.std.specs.List.{range_with_len}
use Rattle.qasm_parse.specs.declared.tree.Arg.{Arg}
use Rattle.qasm_parse.specs.declared.tree.Callee.{Callee}
use Rattle.qasm_parse.specs.declared.tree.Callee.TheVariants.{One, Two, Ccx, Swap, Defined}
use Rattle.qasm_parse.specs.declared.tree.Gate1 as tree_gate
use Rattle.qasm_parse.specs.declared.tree.Gate1.TheVariants.{H, T, Tdg}
use Rattle.qasm_parse.specs.declared.tree.Gate2.TheVariants.{Cx}
use Rattle.qasm_parse.specs.declared.tree.BodyOp.{BodyOp}
use Rattle.qasm_parse.specs.declared.tree.BodyOp.TheVariants as ops
use Rattle.qasm_parse.specs.declared.tree.GateDef.{GateDef}
use Rattle.qasm_parse.specs.declared.tree.Statement.{Statement}
use Rattle.qasm_parse.specs.declared.tree.Statement.TheVariants as statements
use Rattle.qasm_parse.specs.declared.tree.Tree.{Tree}
use Rattle.qasm_parse.specs.Faults.{times, at_index}
use Rattle.qasm_expand.specs.declared.flat.Flat.{Flat}
use Rattle.qasm_expand.specs.declared.flat.Flat.TheVariants.{Gate1, Gate2, Measure, Reset, If}

-- what each definition of a list gives, in order: it is made from the definition and from what those before it give
unfoldable pub each_from : {M : Type 0} → (List M → GateDef → M) → List M → List GateDef → List M
each_from make before [] = before
each_from make before (d ∷ ds) = each_from make (before ++ make before d ∷ []) ds

-- the operations of a call, by the qubits that it is called with
abbrev pub Calls : Type 0
Calls = List ℕ → List Flat

abbrev pub nothing : Calls
nothing qs = []

abbrev pub ccx : ℕ → ℕ → ℕ → List Flat
ccx a b c =
    Gate1 H c ∷ Gate2 Cx b c ∷ Gate1 Tdg c ∷ Gate2 Cx a c ∷ Gate1 T c ∷ Gate2 Cx b c ∷ Gate1 Tdg c ∷ Gate2 Cx a c
    ∷ Gate1 T b ∷ Gate1 T c ∷ Gate1 H c ∷ Gate2 Cx a b ∷ Gate1 T a ∷ Gate1 Tdg b ∷ Gate2 Cx a b ∷ []

abbrev pub swap : ℕ → ℕ → List Flat
swap a b = Gate2 Cx a b ∷ Gate2 Cx b a ∷ Gate2 Cx a b ∷ []

-- the operations of a call of a gate, with those of calls of the definitions
abbrev pub called : List Calls → Callee → Calls
called known (One gate) qs = Gate1 gate (slice_index qs 0) ∷ []
called known (Two gate) qs = Gate2 gate (slice_index qs 0) (slice_index qs 1) ∷ []
called known Ccx qs = ccx (slice_index qs 0) (slice_index qs 1) (slice_index qs 2)
called known Swap qs = swap (slice_index qs 0) (slice_index qs 1)
called known (Defined number) qs = unwrap_or (slice_get known number) nothing qs

-- a statement of a body: each formal number stands for the qubit in its place
abbrev pub body_flats : List Calls → List ℕ → BodyOp → List Flat
body_flats known qs (ops.Call gate formals) = called known gate (map (slice_index qs) formals)
body_flats known qs ops.Barrier = []

-- a call of a definition is replaced by its body
abbrev pub definition_flats : List Calls → GateDef → Calls
definition_flats known d qs = flat_map (body_flats known qs) d.body

-- the operations of calls of the definitions, each of which calls those before it
abbrev pub calls_of : List GateDef → List Calls
calls_of gates = each_from definition_flats [] gates

-- an operation is made for each index of the whole registers, ascending, and once where there is none
abbrev pub indices : List Arg → List ℕ
indices args = range_with_len 0 (times args)

-- a call of a gate for one index
abbrev pub applied : List Calls → Callee → List Arg → ℕ → List Flat
applied known gate args i = called known gate (map (at_index i) args)

abbrev pub measured : Arg → Arg → ℕ → Flat
measured from to i = Measure (at_index i from) (at_index i to)

abbrev pub reset_at : Arg → ℕ → Flat
reset_at arg i = Reset (at_index i arg)

abbrev pub conditional : ℕ → ℕ → ℕ → tree_gate.Gate1 → Arg → ℕ → Flat
conditional first size value gate arg i = If gate (at_index i arg) first size value

-- a statement outside of definitions
abbrev pub statement_flats : List Calls → Statement → List Flat
statement_flats known (statements.Call line gate args) = flat_map (applied known gate args) (indices args)
statement_flats known (statements.Measure line from to) = map (measured from to) (indices (from ∷ []))
statement_flats known (statements.Barrier line) = []
statement_flats known (statements.Reset line arg) = map (reset_at arg) (indices (arg ∷ []))
statement_flats known (statements.If line first size value gate arg) = map (conditional first size value gate arg) (indices (arg ∷ []))

abbrev pub all_flats : List Calls → List Statement → List Flat
all_flats known ss = flat_map (statement_flats known) ss

-- the flat operations of a tree
unfoldable pub flats_of : Tree → List Flat
flats_of tree = all_flats (calls_of tree.gates) tree.statements
