-- Each step was the next entry, and it is the same product's turn. A legal history is short, so the loop ends.
use Rattle.std.proofs.Common.{List, ◌-◌, ◌^◌, length}
use Rattle.source_model.specs.declared.Given.{Given}
use Rattle.board_core.specs.Position.{IsLegal}
use Rattle.finish_run.specs.Next.{IsTurnOf, never}
use Rattle.board_core.specs.Shows.{IsMadeFor}
use Rattle.finish_run.specs.Finished.{GoesOn}
use Rattle.finish_run.proofs.making.prepare.Given as goal

abbrev pub invariant-loop-alloc : goal.invariant-loop-alloc
invariant-loop-alloc l = record {
  goes : (given : List Given) → GoesOn never given l.initial.board l.board;
  legal : IsLegal l.board;
  made : IsMadeFor l.board l.look;
  turn : IsTurnOf l.board l.p;
}

abbrev pub decreases-loop-alloc : goal.decreases-loop-alloc
decreases-loop-alloc l = 2 ^ 20 - length l.board.history
