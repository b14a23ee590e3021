use Rattle.history_replay.proofs.Ending.{legal_or_bad}
use Rattle.history_replay.proofs.Outcomes.{complete_agrees}
use Rattle.history_replay.proofs.law_legal_or_bad.Goals as goal

pub returns : goal.returns
returns c = λ q text n l names (v, h, is) bad. legal_or_bad q text n v h names (complete_agrees q.job q.table h l is.legal is.complete) is bad
