use Rattle.std.proofs.Common.{◌≡◌, ℕ, inl, inr, subst, arith}
use Rattle.std.proofs.lemmas.Bool.{false≢true, cases_lt}
use Rattle.std.proofs.lemmas.Option.{slice_get_within}
use Rattle.region_plan.specs.Free.{IsHeldAt}
use Rattle.region_plan.proofs.free.is_patch_held.Goals as goal

pub loop-qubit-preserved : goal.loop-qubit-preserved
loop-qubit-preserved c q lt held = elim (cases_lt q c.loop-qubit.qubit) [
  | inl less ↦ c.loop-qubit.invariant q less held
  | inr more ↦
      let same : q ≡ c.loop-qubit.qubit = omega arith in
      let P : ℕ → Type 0 = λ x. IsHeldAt c.args.layout.now c.args.look.now x in
      false≢true (c.if-is_held_at.ensures.1 (subst P same held))
]

pub returns : goal.returns
returns c = (
  λ t. absurd (false≢true t),
  λ (q, held). absurd (c.loop-qubit.invariant q (omega (arith, c.len-qubit-end.ensures.value, slice_get_within c.args.look.now.axis.letters q held.0.0 held.0.1)) held),
)
