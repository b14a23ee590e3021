use Rattle.std.proofs.Common.{Err, ap, arith}
use Rattle.router_work.specs.Passing.{IsStepOf}
use Rattle.router_work.proofs.Passings.{passed_on}
use Rattle.router_work.proofs.maker.fill.Goals as goal

pub loop-refusals-preserved-in-Ok-empty : goal.loop-refusals-preserved-in-Ok-empty
loop-refusals-preserved-in-Ok-empty c =
    let at = c.loop-refusals in
    let does = c.in-Ok-step_in_place.ensures in
    let went = passed_on (IsStepOf c.args.factory) c.args.pass.now at.pass c.step_in_place.new.pass at.invariant.passed does.passed in
    record {
      few = omega arith;
      passed = went;
      turned = omega (arith, went.turns);
      full = λ more. absurd (omega arith);
    }

pub returns-in-Err-clause-passed : goal.returns-in-Err-clause-passed
returns-in-Err-clause-passed c =
    let at = c.loop-refusals in
    passed_on (IsStepOf c.args.factory) c.args.pass.now at.pass c.step_in_place.new.pass at.invariant.passed c.in-Ok-step_in_place.ensures.passed

pub loop-refusals-preserved : goal.loop-refusals-preserved
loop-refusals-preserved c =
    let at = c.loop-refusals in
    let does = c.in-Err-Refused.ensures in
    let went = passed_on (IsStepOf c.args.factory) c.args.pass.now at.pass c.step_in_place.new.pass at.invariant.passed does.passed in
    let full = does.full c.in-Err-Refused.refused (ap Err c.in-Err-Refused.field-0-is) in
    record {
      few = omega arith;
      passed = went;
      turned = omega (arith, full.0);
      full = λ more. full.1;
    }

pub returns-in-Err-Busy-clause-passed : goal.returns-in-Err-Busy-clause-passed
returns-in-Err-Busy-clause-passed c =
    let at = c.loop-refusals in
    passed_on (IsStepOf c.args.factory) c.args.pass.now at.pass c.step_in_place.new.pass at.invariant.passed c.in-Err-Busy.ensures.passed
