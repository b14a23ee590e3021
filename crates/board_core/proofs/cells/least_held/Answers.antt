use Rattle.std.proofs.Common.{arith}
use Rattle.board_core.proofs.CellTables.{port_within, least_port}
use Rattle.board_core.proofs.cells.least_held.Goals as goal

pub better-requires : goal.better-requires
better-requires c k e =
    let w = port_within c.args.layout.now c.args.port c.port_at.result c.port_at.ensures k e in
    let s = c.requires.sizes in
    omega arith

pub returns : goal.returns
returns c =
    least_port c.args.layout.now c.args.axis.now c.args.port c.args.cells.now c.args.holders.now c.least_of_patches-patches.result c.better.result c.port_at.result c.better.ensures c.requires.sizes c.port_at.ensures
    (c.least_of_patches-patches.ensures c.args.port c.args.cells.now (c.least_of_region-region.ensures c.args.layout.now c.args.axis.now c.args.port))
