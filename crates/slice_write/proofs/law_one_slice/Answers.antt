use Rattle.slice_write.proofs.ClaimCells.{apart, commute}
use Rattle.slice_write.proofs.law_one_slice.Goals as goal

pub returns-clause-apart : goal.returns-clause-apart
returns-clause-apart c = apart

pub returns-clause-commute : goal.returns-clause-commute
returns-clause-commute c = commute
