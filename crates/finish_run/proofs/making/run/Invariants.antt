-- Each step was the next entry, and the next one is a step again. A legal history is short, so the loop ends.
use Rattle.std.proofs.Common.{ℕ, List, ◌-◌, ◌^◌, length}
use Rattle.source_model.specs.declared.Given.{Given}
use Rattle.board_core.specs.Position.{IsLegal}
use Rattle.finish_run.specs.Next.{IsTurnOf, NoStates, never}
use Rattle.finish_run.specs.Finished.{GoesOn}
use Rattle.finish_run.proofs.making.run.Given as goal

abbrev pub invariant-loop-node : goal.invariant-loop-node
invariant-loop-node l = record {
  goes : (given : List Given) → GoesOn never given l.initial.board l.board;
  legal : IsLegal l.board;
  none : NoStates l.board;
  turn : (p : ℕ) → IsTurnOf l.initial.board p → IsTurnOf l.board p;
}

abbrev pub decreases-loop-node : goal.decreases-loop-node
decreases-loop-node l = 2 ^ 20 - length l.board.history
