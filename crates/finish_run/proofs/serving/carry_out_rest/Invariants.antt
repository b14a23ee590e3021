use Rattle.board_core.specs.Position.{past, IsLegal}
use Rattle.finish_run.specs.Finished.{GoesOn}
use Rattle.finish_run.specs.inside.Finished.{DoneBelow}
use Rattle.board_core.specs.Shows.{IsMadeFor}
use Rattle.finish_run.specs.Next.{IsIdle}
use Rattle.finish_run.proofs.serving.carry_out_rest.Given as goal

abbrev pub invariant-loop-p : goal.invariant-loop-p
invariant-loop-p g l = record {
  goes : GoesOn g.P.Planner.meets l.given l.initial.board l.board;
  legal : IsLegal l.board;
  made : IsMadeFor l.board l.look;
  idle : IsIdle (past l.board);
  below : DoneBelow (past l.board) l.p;
}
