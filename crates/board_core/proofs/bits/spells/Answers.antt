use Rattle.std.proofs.Common.{arith}
use Rattle.board_core.specs.inside.Bits.{value_in}
use Rattle.board_core.proofs.Digits.{not_unequal, read_value, spells_on}
use Rattle.board_core.proofs.bits.spells.Goals as goal

pub loop-at-preserved : goal.loop-at-preserved
loop-at-preserved c =
    spells_on (value_in c.args.bits.now) c.args.first c.args.size c.args.value c.loop-at.at c.loop-at.rest _ c.loop-at-test.true (not_unequal _ _ c.if-bits-at.false)
    (read_value c.args.bits.now c.loop-at.at _ (omega arith)) c.loop-at.invariant
