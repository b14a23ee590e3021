use Rattle.std.proofs.Common.{sym}
use Rattle.std.proofs.lemmas.Bool.{true≢false}
use Rattle.history_replay.proofs.enter.claim.Goals as goal

pub returns-in-Err-clause-barred : goal.returns-in-Err-clause-barred
returns-in-Err-clause-barred c f allowed =
    true≢false (sym (c.in-Err.ensures.complete c.args.state allowed (c.requires.1 (allowed.ascending, allowed.fits))))
