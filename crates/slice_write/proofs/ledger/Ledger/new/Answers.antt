use Rattle.slice_write.specs.inside.Tables.{job}
use Rattle.slice_write.proofs.Starting.{keeps_new}
use Rattle.slice_write.proofs.ledger.Ledger.new.Goals as goal

pub returns : goal.returns
returns c =
    keeps_new (job c.args.products.now c.args.layout.now c.args.fails.now) _ c.size.result c.in_ok-zeros.ensures c.size.ensures.value c.in_ok-zeros-2.ensures c.new.ensures.items c.new-2.ensures.items
    c.in_ok-factories.ensures.count c.in_ok-factories.ensures.fresh c.new-3.ensures.items
