use Rattle.std.proofs.Common.{◌≡◌, take}
use Rattle.qasm_expand.specs.Flats.{all_flats, calls_of}
use Rattle.qasm_expand.proofs.expand.Given as goal

abbrev pub invariant-loop-statement : goal.invariant-loop-statement
invariant-loop-statement l = l.flats.items ≡ all_flats (calls_of l.tree.gates) (take l.statement-index l.statement-items)
