use Rattle.std.proofs.Common.{List}
use Rattle.source_model.specs.declared.Given.{Given}
use Rattle.board_core.specs.Position.{past, IsLegal}
use Rattle.finish_run.specs.Next.{IsPending, IsUnreleased, NoneIs, never}
use Rattle.finish_run.specs.inside.Next.{NoneBelow}
use Rattle.finish_run.specs.Finished.{GoesOn}
use Rattle.finish_run.proofs.phases.release_delivered.Given as goal

abbrev pub invariant-loop-p : goal.invariant-loop-p
invariant-loop-p l = record {
  goes : (given : List Given) → GoesOn never given l.initial.board l.board;
  legal : IsLegal l.board;
  none : NoneIs (IsPending (past l.board));
  below : NoneBelow (IsUnreleased (past l.board)) l.p;
}
