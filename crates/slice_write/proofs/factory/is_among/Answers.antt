use Rattle.std.proofs.Common.{◌∙◌}
use Rattle.magic_pool.proofs.Runs.{is_ok-among}
use Rattle.slice_write.proofs.factory.is_among.Goals as goal

pub returns : goal.returns
returns c = c.is_ok.ensures.value ∙ is_ok-among c.args.runs.now c.args.run c.binary_search.result c.requires c.binary_search.ensures.position
