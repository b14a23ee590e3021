use Rattle.trace_laws.proofs.Laws.{waiting_closed, waiting_within, waiting_grows, waiting_exchanged}
use Rattle.trace_laws.proofs.law_waiting.Goals as goal

pub returns-clause-closed : goal.returns-clause-closed
returns-clause-closed c = waiting_closed

pub returns-clause-within : goal.returns-clause-within
returns-clause-within c = waiting_within

pub returns-clause-grows : goal.returns-clause-grows
returns-clause-grows c = waiting_grows

pub returns-clause-exchanged : goal.returns-clause-exchanged
returns-clause-exchanged c = waiting_exchanged
