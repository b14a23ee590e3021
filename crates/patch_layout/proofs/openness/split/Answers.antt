use Rattle.patch_layout.proofs.Opening.{split_is}
use Rattle.patch_layout.proofs.openness.split.Goals as goal

pub returns : goal.returns
returns c = split_is c.args.layout.now c.in-Some.first c.in_ok-found.found c.in-Some.ensures c.in_ok-found.ensures
