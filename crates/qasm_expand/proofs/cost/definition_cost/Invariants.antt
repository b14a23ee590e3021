use Rattle.std.proofs.Common.{◌≡◌, ◌+◌, take, sum_by}
use Rattle.qasm_expand.specs.inside.Costs.{capped_cost, op_operations, op_products}
use Rattle.qasm_expand.proofs.cost.definition_cost.Given as goal

abbrev pub invariant-loop-op : goal.invariant-loop-op
invariant-loop-op l = l.total ≡ capped_cost (1 + sum_by (op_operations l.known) (take l.op-index l.op-items)) (sum_by (op_products l.known) (take l.op-index l.op-items))
