use Rattle.board_core.specs.Position.{past, IsLegal}
use Rattle.finish_run.specs.Next.{IsPending, never}
use Rattle.finish_run.specs.inside.Next.{NoneBelow}
use Rattle.finish_run.specs.Finished.{GoesOn}
use Rattle.finish_run.proofs.phases.deliver_claimed.Given as goal

abbrev pub invariant-loop-p : goal.invariant-loop-p
invariant-loop-p l = record {
  goes : GoesOn never l.given l.initial.board l.board;
  legal : IsLegal l.board;
  below : NoneBelow (IsPending (past l.board)) l.p;
}
