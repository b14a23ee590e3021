use Rattle.std.proofs.Common.{◌+◌, arith}
use Rattle.core_tests.proofs.Fewer.{fewer_least, fewer_step}
use Rattle.core_tests.proofs.pool.run.Goals as goal

pub step-requires : goal.step-requires
step-requires g c = fewer_least _ (4000 + c.loop-done.done-counter) 4294967295 (c.loop-done.invariant 4000 c.requires) (omega arith)

pub step-requires-2 : goal.step-requires-2
step-requires-2 g c = fewer_least _ (4000 + c.loop-done.done-counter) 4294967295 (c.loop-done.invariant 4000 c.requires) (omega arith)

pub loop-done-preserved : goal.loop-done-preserved
loop-done-preserved g c = λ n few.
    fewer_least _ ((n + c.loop-done.done-counter) + 1) (n + (c.loop-done.done-counter + 1)) (fewer_step _ _ c.args.f (n + c.loop-done.done-counter) c.step.result c.step.ensures.history c.step.ensures.refused (c.loop-done.invariant n few)) (omega arith)

pub returns : goal.returns
returns g c = λ n few.
    fewer_least _ ((n + c.loop-done.done-counter) + 1) (n + 11) (fewer_step _ _ c.args.f (n + c.loop-done.done-counter) c.step-2.result c.step-2.ensures.history c.step-2.ensures.refused (c.loop-done.invariant n few)) (omega arith)
