-- What calls and statements count, with numbers that stop at the greatest word.
use Rattle.std.specs.Prelude.{ℕ, Bool, ◌+◌, ◌*◌, ◌||◌, min, nat_lt, List, [], ◌∷◌, sum_by, slice_get, unwrap_or}
use Rattle.qasm_parse.specs.declared.tree.Callee.{Callee}
use Rattle.qasm_parse.specs.declared.tree.Callee.TheVariants.{One, Two, Ccx, Swap, Defined}
use Rattle.qasm_parse.specs.declared.tree.BodyOp.{BodyOp}
use Rattle.qasm_parse.specs.declared.tree.BodyOp.TheVariants as ops
use Rattle.qasm_parse.specs.declared.tree.GateDef.{GateDef}
use Rattle.qasm_parse.specs.declared.tree.Statement.{Statement}
use Rattle.qasm_parse.specs.declared.tree.Statement.TheVariants as statements
use Rattle.qasm_parse.specs.Faults.{times}
use Rattle.qasm_expand.specs.declared.cost.Cost.{Cost}
use Rattle.qasm_expand.specs.Flats.{each_from}
use Rattle.qasm_expand.specs.Limits.{gate_products, if_products}

-- a number, or the greatest word where it is past it
abbrev pub capped : ℕ → ℕ
capped n = min n 4294967295

abbrev pub cost : ℕ → ℕ → Cost
cost operations products = record { operations = operations; products = products }

abbrev pub capped_cost : ℕ → ℕ → Cost
capped_cost operations products = cost (capped operations) (capped products)

abbrev pub call_cost : List Cost → Callee → Cost
call_cost known (One gate) = cost 1 (gate_products gate)
call_cost known (Two gate) = cost 1 0
call_cost known Ccx = cost 16 7
call_cost known Swap = cost 4 0
call_cost known (Defined number) = unwrap_or (slice_get known number) (cost 0 0)

abbrev pub op_cost : List Cost → BodyOp → Cost
op_cost known (ops.Call gate formals) = call_cost known gate
op_cost known ops.Barrier = cost 1 0

abbrev pub op_operations : List Cost → BodyOp → ℕ
op_operations known op = (op_cost known op).operations

abbrev pub op_products : List Cost → BodyOp → ℕ
op_products known op = (op_cost known op).products

unfoldable pub definition_cost : List Cost → GateDef → Cost
definition_cost known d = capped_cost (1 + sum_by (op_operations known) d.body) (sum_by (op_products known) d.body)

abbrev pub costs_of : List GateDef → List Cost
costs_of gates = each_from definition_cost [] gates

-- a cost so many times
abbrev pub multiple : ℕ → Cost → Cost
multiple n c = capped_cost (n * c.operations) (n * c.products)

abbrev pub statement_cost : List Cost → Statement → Cost
statement_cost known (statements.Call line gate args) = multiple (times args) (call_cost known gate)
statement_cost known (statements.Measure line from to) = multiple (times (from ∷ [])) (cost 1 1)
statement_cost known (statements.Barrier line) = cost 1 0
statement_cost known (statements.Reset line arg) = multiple (times (arg ∷ [])) (cost 1 2)
statement_cost known (statements.If line first size value gate arg) = multiple (times (arg ∷ [])) (cost 1 (if_products gate))

abbrev pub statement_operations : List Cost → Statement → ℕ
statement_operations known s = (statement_cost known s).operations

abbrev pub statement_products : List Cost → Statement → ℕ
statement_products known s = (statement_cost known s).products

-- the costs of statements are past a limit
unfoldable pub is_over : List Cost → List Statement → Bool
is_over known ss = nat_lt 262144 (sum_by (statement_operations known) ss) || nat_lt 16384 (sum_by (statement_products known) ss)
