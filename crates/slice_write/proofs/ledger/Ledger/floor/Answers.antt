use Rattle.std.proofs.Common.{◌∙◌, ap, length}
use Rattle.slice_write.proofs.Stores.{held_inside, all_within}
use Rattle.slice_write.proofs.ledger.Ledger.floor.Goals as goal

pub greatest_at-requires : goal.greatest_at-requires
greatest_at-requires c =
    all_within c.held_cells.new.into.items c.deref-3.result.now c.deref-2.result.now (length c.args.layout.now.sites) c.deref-3.ensures.value (ap length c.deref-2.ensures.value ∙ c.requires.size)
    (held_inside c.args.layout.now c.args.axis.now c.args.port c.args.region.now c.held_cells.new.into.items c.in_ok-held_cells.ensures c.requires.region)

pub returns-clause-within : goal.returns-clause-within
returns-clause-within c = held_inside c.args.layout.now c.args.axis.now c.args.port c.args.region.now c.held_cells.new.into.items c.in_ok-held_cells.ensures c.requires.region
