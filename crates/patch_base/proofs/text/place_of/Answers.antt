use Rattle.std.proofs.Common.{arith}
use Rattle.patch_base.proofs.Pieces.{place_is}
use Rattle.patch_base.proofs.text.place_of.Goals as goal

pub returns-then-byte-sought-clause-place : goal.returns-then-byte-sought-clause-place
returns-then-byte-sought-clause-place c =
    place_is c.args.bytes.now c.args.sought c.loop-place.place (omega arith) c.loop-place.invariant (λ _. c.if-byte-sought.true)

pub returns-clause-place : goal.returns-clause-place
returns-clause-place c =
    place_is c.args.bytes.now c.args.sought _ (omega arith) (λ k below. c.loop-place.invariant k (omega arith)) (λ inside. absurd (omega arith))
