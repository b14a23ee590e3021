use Rattle.schedule_text.proofs.Standing.{legal_entries_stand}
use Rattle.schedule_text.proofs.law_legal_entries_stand.Goals as goal

pub returns : goal.returns
returns c = legal_entries_stand c.law_short.ensures
