use Rattle.trace_laws.proofs.Laws.{next_waits, next_axis, known_axis, known_flip}
use Rattle.trace_laws.proofs.law_next.Goals as goal

pub returns-clause-waits : goal.returns-clause-waits
returns-clause-waits c = next_waits

pub returns-clause-axis : goal.returns-clause-axis
returns-clause-axis c = next_axis

pub returns-clause-known_axis : goal.returns-clause-known_axis
returns-clause-known_axis c = known_axis

pub returns-clause-known_flip : goal.returns-clause-known_flip
returns-clause-known_flip c = known_flip
