use Rattle.std.proofs.Common.{◌∙◌}
use Rattle.slice_write.proofs.Stores.{store_is}
use Rattle.slice_write.proofs.ledger.store.Goals as goal

pub returns : goal.returns
returns c = c.unwrap_or.ensures ∙ store_is c.args.layout.now c.args.factory c.store.result c.store.ensures.value
