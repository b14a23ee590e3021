use Rattle.history_replay.proofs.Laws.{schedules_are_legal}
use Rattle.history_replay.proofs.law_schedules_are_legal.Goals as goal

pub returns : goal.returns
returns c = schedules_are_legal
