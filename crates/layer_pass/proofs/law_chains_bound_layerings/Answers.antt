use Rattle.layer_pass.proofs.Bounds.{chains_bound_layerings}
use Rattle.layer_pass.proofs.law_chains_bound_layerings.Goals as goal

pub returns : goal.returns
returns c = chains_bound_layerings
