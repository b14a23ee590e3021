use Rattle.history_replay.proofs.Splitting.{one_first_bad}
use Rattle.history_replay.proofs.law_one_first_bad.Goals as goal

pub returns : goal.returns
returns c = one_first_bad
