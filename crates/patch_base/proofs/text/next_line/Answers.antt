use Rattle.std.proofs.Common.{arith, ◌+◌}
use Rattle.patch_base.proofs.Pieces.{lines_at, no_lines_past}
use Rattle.patch_base.proofs.text.next_line.Goals as goal

pub returns-then-whole-clause-lines : goal.returns-then-whole-clause-lines
returns-then-whole-clause-lines c = lines_at c.args.text.now c.args.at c.place_of.result c.if-text-at.false c.place_of.ensures.place

pub returns-else-whole-clause-lines : goal.returns-else-whole-clause-lines
returns-else-whole-clause-lines c =
    let behind = no_lines_past c.args.text.now (c.args.at + c.place_of.result) c.if-whole.false in
    let further = no_lines_past c.args.text.now (c.args.at + c.place_of.result + 1) (omega arith) in
    rw behind (rw further at (lines_at c.args.text.now c.args.at c.place_of.result c.if-text-at.false c.place_of.ensures.place))
