use Rattle.std.proofs.Common.{length, ap, arith}
use Rattle.commute_order.proofs.BitLists.{length_bits}
use Rattle.commute_order.proofs.bits.Bits.first_unset.Goals as goal

pub has-requires : goal.has-requires
has-requires c = omega (arith, c.loop-at-test.true, ap length c.self.view_is, length_bits c.self.inside.words.items 0 c.self.inside.len)
