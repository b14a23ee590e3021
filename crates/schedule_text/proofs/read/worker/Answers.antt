use Rattle.schedule_text.proofs.Worded.{too_great}
use Rattle.schedule_text.proofs.read.worker.Goals as goal

pub returns-else-by-le63-clause-other : goal.returns-else-by-le63-clause-other
returns-else-by-le63-clause-other c =
    let (small, is) = c.in_ok-by.ensures.found in
    too_great c.args.version _ _ c.in_ok-by.by c.if-version-eq1.false small is c.if-by-le63.false
