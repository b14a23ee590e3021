use Rattle.std.proofs.Common.{arith}
use Rattle.patch_layout.proofs.Opening.{first_open, second_open}
use Rattle.patch_layout.proofs.openness.is_open.Goals as goal

pub returns-then-is_some : goal.returns-then-is_some
returns-then-is_some c = first_open c.side-pair.result c.args.layout.now c.args.side c.is_some.result (omega (arith, c.side-pair.type_inv)) c.side-pair.ensures.value c.is_some.ensures c.if-is_some.true

pub returns-else-is_some : goal.returns-else-is_some
returns-else-is_some c =
    second_open c.side-pair.result c.args.layout.now c.args.side c.is_some.result c.is_some-else-is_some.result (omega (arith, c.side-pair.type_inv)) c.side-pair.ensures.value c.is_some.ensures c.if-is_some.false c.is_some-else-is_some.ensures
