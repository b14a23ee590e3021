-- The flat count and the number of products, and the statement by which one of them passes its limit.
use Rattle.std.specs.Prelude.{◌≡◌, ℕ, Bool, ◌+◌, ◌*◌, ◌||◌, nat_lt, if◌then◌else◌, List, [], ◌∷◌, ◌++◌, length, sum_by, slice_get, unwrap_or, Option, Some, None}
use Rattle.qasm_lex.specs.declared.fault.CircuitFault.{CircuitFault}
use Rattle.qasm_lex.specs.declared.fault.CircuitFault.TheVariants.{At, Memory}
use Rattle.qasm_lex.specs.declared.fault.FaultKind.TheVariants.{TooMany}
use Rattle.qasm_parse.specs.declared.tree.Callee.{Callee}
use Rattle.qasm_parse.specs.declared.tree.Callee.TheVariants.{One, Two, Ccx, Swap, Defined}
use Rattle.qasm_parse.specs.declared.tree.Gate1 as tree_gate
use Rattle.qasm_parse.specs.declared.tree.Gate1.TheVariants.{Id, X, Y, Z, H, S, Sdg, Sx, Sxdg, T, Tdg}
use Rattle.qasm_parse.specs.declared.tree.BodyOp.{BodyOp}
use Rattle.qasm_parse.specs.declared.tree.BodyOp.TheVariants as ops
use Rattle.qasm_parse.specs.declared.tree.GateDef.{GateDef}
use Rattle.qasm_parse.specs.declared.tree.Statement.{Statement}
use Rattle.qasm_parse.specs.declared.tree.Statement.TheVariants as statements
use Rattle.qasm_parse.specs.declared.tree.Tree.{Tree}
use Rattle.qasm_parse.specs.Faults.{times}
use Rattle.qasm_expand.specs.declared.flat.Flat.{Flat}
use Rattle.qasm_expand.specs.declared.flat.Flat.TheVariants.{Gate1, Gate2, Measure, Reset, If}
use Rattle.qasm_expand.specs.Flats.{each_from, ccx, swap, calls_of, all_flats}

-- what a call of a gate counts, with what calls of the definitions count: a gate with a list or a body counts 1 beside it
abbrev pub call_count : List ℕ → Callee → ℕ
call_count known (One gate) = 1
call_count known (Two gate) = 1
call_count known Ccx = 1 + length (ccx 0 1 2)
call_count known Swap = 1 + length (swap 0 1)
call_count known (Defined number) = unwrap_or (slice_get known number) 0

abbrev pub body_count : List ℕ → BodyOp → ℕ
body_count known (ops.Call gate formals) = call_count known gate
body_count known ops.Barrier = 1

-- a call of a definition counts 1 and what its body counts
abbrev pub definition_count : List ℕ → GateDef → ℕ
definition_count known d = 1 + sum_by (body_count known) d.body

-- what calls of the definitions count
abbrev pub counts_of : List GateDef → List ℕ
counts_of gates = each_from definition_count [] gates

-- each application, measurement, reset and conditional gate on one qubit counts, and a barrier counts 1
abbrev pub statement_count : List ℕ → Statement → ℕ
statement_count known (statements.Call line gate args) = times args * call_count known gate
statement_count known (statements.Measure line from to) = times (from ∷ [])
statement_count known (statements.Barrier line) = 1
statement_count known (statements.Reset line arg) = times (arg ∷ [])
statement_count known (statements.If line first size value gate arg) = times (arg ∷ [])

-- `t` and `tdg` are products, and of the gates under a condition all but `id`
abbrev pub gate_products : tree_gate.Gate1 → ℕ
gate_products T = 1
gate_products Tdg = 1
gate_products Id = 0
gate_products X = 0
gate_products Y = 0
gate_products Z = 0
gate_products H = 0
gate_products S = 0
gate_products Sdg = 0
gate_products Sx = 0
gate_products Sxdg = 0

abbrev pub if_products : tree_gate.Gate1 → ℕ
if_products Id = 0
if_products X = 1
if_products Y = 1
if_products Z = 1
if_products H = 1
if_products S = 1
if_products Sdg = 1
if_products Sx = 1
if_products Sxdg = 1
if_products T = 1
if_products Tdg = 1

-- the products of an operation; a reset is a measurement and a gate that its bit settles
abbrev pub products : Flat → ℕ
products (Gate1 gate q) = gate_products gate
products (Gate2 gate a b) = 0
products (Measure q bit) = 1
products (Reset q) = 2
products (If gate q first size value) = if_products gate

-- the flat count of statements
abbrev pub flat_count : Tree → List Statement → ℕ
flat_count tree ss = sum_by (statement_count (counts_of tree.gates)) ss

-- the number of products of statements
abbrev pub product_count : Tree → List Statement → ℕ
product_count tree ss = sum_by products (all_flats (calls_of tree.gates) ss)

-- 262,144 is the greatest flat count, and 16,384 the greatest number of products
unfoldable pub is_past : Tree → List Statement → Bool
is_past tree ss = nat_lt 262144 (flat_count tree ss) || nat_lt 16384 (product_count tree ss)

abbrev pub line_of : Statement → ℕ
line_of (statements.Call line gate args) = line
line_of (statements.Measure line from to) = line
line_of (statements.Barrier line) = line
line_of (statements.Reset line arg) = line
line_of (statements.If line first size value gate arg) = line

-- the line of the first statement by which those before it and it pass something
unfoldable pub passing_from : (List Statement → Bool) → List Statement → List Statement → Option ℕ
passing_from pass before [] = None
passing_from pass before (s ∷ ss) = if pass (before ++ s ∷ []) then Some (line_of s) else passing_from pass (before ++ s ∷ []) ss

-- the line of the first statement by which a limit is passed
abbrev pub passing : Tree → Option ℕ
passing tree = passing_from (is_past tree) [] tree.statements

-- a refusal is at the line of the statement by which a limit is passed, or it is want of memory
abbrev pub IsRefused : Option ℕ → CircuitFault → Type 0
IsRefused found Memory = Unit {0}
IsRefused found (At line kind) = (found ≡ Some line) × (kind ≡ TooMany)
