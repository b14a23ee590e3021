use Rattle.std.proofs.Common.{arith}
use Rattle.std.proofs.lemmas.Bool.{false≢true}
use Rattle.std.proofs.lemmas.Option.{slice_get_within}
use Rattle.region_plan.proofs.free.is_any_ready.Goals as goal

pub returns : goal.returns
returns c = (
  λ t. absurd (false≢true t),
  λ (f, (n, is, some)). absurd (c.loop-count.invariant f n (omega (arith, slice_get_within c.args.counts.now f n is)) is some),
)
