use Rattle.std.proofs.Common.{◌≡◌, ◌<◌, None, take, map, fold, max}
use Rattle.std.specs.List.{flat_map}
use Rattle.qasm_parse.specs.Faults.{first_fault, body_faults}
use Rattle.qasm_parse.specs.Behind.{op_of, depth_of}
use Rattle.qasm_parse.proofs.definitions.body_ops.Given as goal

abbrev pub invariant-loop-statement : goal.invariant-loop-statement
invariant-loop-statement l = record {
  faultless : first_fault (flat_map (body_faults l.source l.known l.names) (take l.statement-index l.body)) ≡ None;
  made : l.ops ≡ map (op_of l.source l.known l.names) (take l.statement-index l.body);
  deep : l.deepest ≡ fold max 0 (map (depth_of l.source l.known) (take l.statement-index l.body));
  shallow : l.deepest < 64;
}
