use Rattle.std.proofs.Common.{rules}
use Rattle.number_share.proofs.Keeps.{draws}
use Rattle.number_share.proofs.steps.draw.Goals as goal

pub fetch_add-requires : goal.fetch_add-requires
fetch_add-requires c = let h = c.requires.unspent in (search rules, search rules, draws _ _ _ _ _ h.0 h.1)
