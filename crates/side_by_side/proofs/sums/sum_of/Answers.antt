use Rattle.std.proofs.Common.{◌≤◌, ap, arith, subst, take}
use Rattle.side_by_side.specs.declared.sums.Sums.{Sums}
use Rattle.side_by_side.specs.Joined.{IsWithin, hidden_of}
use Rattle.side_by_side.proofs.Summing.{hidden_take}
use Rattle.side_by_side.proofs.sums.sum_of.Goals as goal

pub with-next-requires-clause-hidden : goal.with-next-requires-clause-hidden
with-next-requires-clause-hidden c =
    let circuits = c.args.circuits.now in
    let kept = c.loop-program.invariant in
    let few : hidden_of (take c.loop-program.program circuits) ≤ 16384 =
    hidden_take circuits c.loop-program.program c.requires.each (subst IsWithin kept.sums kept.within) in
    omega (arith, few, ap (λ (s : Sums). s.hidden) kept.sums)
