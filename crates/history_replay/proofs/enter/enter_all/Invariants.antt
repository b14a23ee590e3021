use Rattle.std.proofs.Common.{◌≡◌, ◌≤◌, ◌-◌, length, drop}
use Rattle.schedule_text.specs.Lines.{version_of}
use Rattle.history_replay.specs.inside.Joining.{Begins}
use Rattle.history_replay.proofs.enter.enter_all.Given as goal

abbrev pub invariant-loop-ended : goal.invariant-loop-ended
invariant-loop-ended l = record {
  begins : Begins l.initial.board.job l.table (version_of l.version) (drop l.start l.text) l.board.history (drop l.at l.text);
  job : l.board.job ≡ l.initial.board.job;
  at : l.at ≤ length l.text;
}

abbrev pub decreases-loop-ended : goal.decreases-loop-ended
decreases-loop-ended l = length l.text - l.at
