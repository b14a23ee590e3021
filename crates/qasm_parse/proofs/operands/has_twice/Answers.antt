use Rattle.std.proofs.Common.{nat_eq}
use Rattle.qasm_parse.proofs.Meeting.{pair_step}
use Rattle.qasm_parse.proofs.operands.has_twice.Goals as goal

pub loop-i-preserved : goal.loop-i-preserved
loop-i-preserved c = pair_step nat_eq c.args.numbers.now c.loop-i.i 0 c.loop-i-test.true c.loop-i.invariant c.if-is_among.ensures
