use Rattle.std.proofs.Common.{arith}
use Rattle.magic_pool.proofs.Histories.{recounts_new}
use Rattle.magic_pool.proofs.pool.Pool.new.Goals as goal

pub returns-clause-history : goal.returns-clause-history
returns-clause-history c = recounts_new c.in_ok-from_slice.field-0.items c.in_ok-from_slice-2.field-0.items c.loop-number.factories.items (λ f d inside. c.loop-number.invariant.fresh f d (omega (arith, c.loop-number.invariant.count)))
