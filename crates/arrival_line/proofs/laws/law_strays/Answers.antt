use Rattle.arrival_line.proofs.Reasons.{stray_exactly}
use Rattle.arrival_line.proofs.laws.law_strays.Goals as goal

pub returns : goal.returns
returns c = stray_exactly
