use Rattle.std.proofs.Common.{◌+◌, ◌*◌, arith}
use Rattle.core_tests.proofs.Fewer.{fewer_new, fewer_least, fewer_step, fewer_take}
use Rattle.core_tests.proofs.pool.play.Goals as goal
use Rattle.core_tests.proofs.pool.play.Goals.{in-Run+else-assert_eq-2, in-Refused+else-assert_eq-3, in-Take+else-assert_eq-4, in-Ready+else-assert_eq-5}

pub loop-call-init : goal.loop-call-init
loop-call-init g c = fewer_new _ c.in_ok-pool.ensures.history

pub run-requires : goal.run-requires
run-requires g c = fewer_least _ (11 * c.loop-call.call-index + 1) 4000 c.loop-call.invariant (omega arith)

pub step-requires : goal.step-requires
step-requires g c = fewer_least _ (11 * c.loop-call.call-index + 1) 4294967295 c.loop-call.invariant (omega arith)

pub loop-call-preserved : goal.loop-call-preserved
loop-call-preserved g c = elim c.match-call.branch [
  | in-Run+else-assert_eq-2 w ↦ rw w.pool-is (fewer_least _ ((11 * c.loop-call.call-index + 1) + 11) (11 * (c.loop-call.call-index + 1) + 1) (w.run.ensures (11 * c.loop-call.call-index + 1) c.loop-call.invariant) (omega arith))
  | in-Refused+else-assert_eq-3 w ↦ rw w.pool-is (fewer_least _ ((11 * c.loop-call.call-index + 1) + 1) (11 * (c.loop-call.call-index + 1) + 1) (fewer_step _ _ _ (11 * c.loop-call.call-index + 1) w.step.result w.step.ensures.history w.step.ensures.refused c.loop-call.invariant) (omega arith))
  | in-Take+else-assert_eq-4 w ↦ rw w.pool-is (fewer_least _ (11 * c.loop-call.call-index + 1) (11 * (c.loop-call.call-index + 1) + 1) (fewer_take _ _ (11 * c.loop-call.call-index + 1) w.take.result w.take.ensures.history c.loop-call.invariant) (omega arith))
  | in-Ready+else-assert_eq-5 w ↦ rw w.pool-is (fewer_least _ (11 * c.loop-call.call-index + 1) (11 * (c.loop-call.call-index + 1) + 1) c.loop-call.invariant (omega arith))
]
