use Rattle.std.proofs.Common.{◌≡◌, take}
use Rattle.qasm_expand.specs.inside.Costs.{costs_of}
use Rattle.qasm_expand.proofs.cost.costs.Given as goal

abbrev pub invariant-loop-definition : goal.invariant-loop-definition
invariant-loop-definition l = l.known.items ≡ costs_of (take l.definition-index l.gates)
