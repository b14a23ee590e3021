use Rattle.std.proofs.Common.{◌≡◌, ℕ, inl, inr, subst, arith}
use Rattle.std.proofs.lemmas.Bool.{false≢true, cases_lt}
use Rattle.region_plan.specs.Free.{IsOffered}
use Rattle.region_plan.proofs.ports.is_any_offered.Goals as goal

pub loop-factory-preserved : goal.loop-factory-preserved
loop-factory-preserved c f lt offered = elim (cases_lt f c.loop-factory.factory) [
  | inl less ↦ c.loop-factory.invariant f less offered
  | inr more ↦
      let same : f ≡ c.loop-factory.factory = omega arith in
      let P : ℕ → Type 0 = λ x. IsOffered c.args.layout.now c.args.look.now x in
      false≢true (c.if-is_offered.ensures.1 (subst P same offered))
]

pub returns : goal.returns
returns c _ f lt offered = c.loop-factory.invariant f (omega (arith, c.loop-factory-test.false, lt)) offered
