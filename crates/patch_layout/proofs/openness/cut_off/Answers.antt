use Rattle.patch_layout.proofs.Opening.{cut_off_is}
use Rattle.patch_layout.proofs.openness.cut_off.Goals as goal

pub returns : goal.returns
returns c =
    cut_off_is c.args.layout.now c.args.free.now c.spread.new.seen c.args.first c.spread.new.queue.items c.unseen_cell.result c.requires.first c.requires.marks c.in_ok-spread.ensures c.unseen_cell.ensures
