use Rattle.qasm_parse.specs.declared.tree.Arg.TheVariants.{Whole}
use Rattle.qasm_parse.specs.Faults.{meets}
use Rattle.qasm_parse.proofs.Meeting.{pair_step}
use Rattle.qasm_parse.proofs.operands.meets_itself.Goals as goal

pub loop-i-preserved : goal.loop-i-preserved
loop-i-preserved c = pair_step (meets c.args.times) c.args.args.now c.loop-i.i (Whole 0 0) c.loop-i-test.true c.loop-i.invariant c.if-meets_any.ensures
