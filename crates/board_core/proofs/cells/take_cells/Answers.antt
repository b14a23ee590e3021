use Rattle.std.proofs.Common.{◌∙◌, arith}
use Rattle.board_core.proofs.CellTables.{port_within, take_port}
use Rattle.board_core.proofs.cells.take_cells.Goals as goal

pub give-requires : goal.give-requires
give-requires c k e =
    let w = port_within c.args.layout.now c.args.port c.port_at.result c.port_at.ensures k e in
    let s = c.take_patches.ensures.size ∙ c.take_region.ensures.size ∙ c.requires.sizes in
    omega arith

pub returns : goal.returns
returns c =
    take_port c.args.layout.now c.args.axis.now c.args.port c.args.cells.now c.args.by c.args.holders.now c.take_patches.new.holders c.give.new.holders c.port_at.result c.give.ensures c.requires.sizes c.port_at.ensures
    (c.take_patches.ensures.taken c.args.port c.args.cells.now c.args.holders.now (c.take_region.ensures.taken c.args.layout.now c.args.axis.now c.args.port))
