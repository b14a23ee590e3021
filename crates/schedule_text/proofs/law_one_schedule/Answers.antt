use Rattle.schedule_text.proofs.Laws.{one_schedule}
use Rattle.schedule_text.proofs.law_one_schedule.Goals as goal

pub returns : goal.returns
returns c = one_schedule
