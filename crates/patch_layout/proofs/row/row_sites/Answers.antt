use Rattle.std.proofs.Common.{arith}
use Rattle.patch_layout.specs.Row.{row_grid}
use Rattle.patch_layout.proofs.Rows.{row_more, row_done}
use Rattle.patch_layout.proofs.row.row_sites.Goals as goal

pub loop-qubit-preserved : goal.loop-qubit-preserved
loop-qubit-preserved c =
    row_more (row_grid c.args.patches).sites c.loop-qubit.sites.items c.push.new.self.items c.push-in-loop-qubit.new.self.items c.loop-qubit.qubit c.args.patches c.loop-qubit.invariant
    c.in_ok-push.ensures.items c.in_ok-push-2.ensures.items

pub returns : goal.returns
returns c =
    row_done (row_grid c.args.patches).sites c.loop-qubit.sites.items c.push-2.new.self.items c.push-3.new.self.items c.loop-qubit.qubit c.args.patches c.loop-qubit.invariant
    c.in_ok-push-3.ensures.items c.in_ok-push-4.ensures.items (omega arith)
