use Rattle.number_share.proofs.Moments.{moment}
use Rattle.number_share.proofs.laws.law_once.Goals as goal

pub returns : goal.returns
returns c = moment
