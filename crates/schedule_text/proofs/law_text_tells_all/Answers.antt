use Rattle.schedule_text.proofs.OneText.{text_tells_all}
use Rattle.schedule_text.proofs.law_text_tells_all.Goals as goal

pub returns : goal.returns
returns c = text_tells_all
