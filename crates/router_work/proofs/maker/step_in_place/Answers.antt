use Rattle.std.proofs.Common.{arith}
use Rattle.router_work.specs.Passing.{IsStepOf}
use Rattle.router_work.proofs.Passings.{passed_measured, passed_on, passed_read}
use Rattle.router_work.proofs.Makings.{full_read, refused, refused_as, stepped}
use Rattle.router_work.proofs.maker.step_in_place.Goals as goal

pub returns-in-Ok-clause-passed : goal.returns-in-Ok-clause-passed
returns-in-Ok-clause-passed c =
    let f = c.args.factory in
    let p = c.args.pass.now in
    let l = c.length-length in
    let at = c.loop-again in
    let does = c.step.ensures in
    let to_length = passed_on (IsStepOf f) p at.pass l.new.pass at.invariant.passed (passed_measured (IsStepOf f) at.pass l.new.pass l.result l.ensures.same l.ensures.rests l.ensures.told) in
    stepped f p l.new.pass c.step.new.pass at.node c.step.result to_length does.same does.rests does.told

pub returns-then-not-outwaits-clause-passed : goal.returns-then-not-outwaits-clause-passed
returns-then-not-outwaits-clause-passed c =
    let f = c.args.factory in
    let p = c.args.pass.now in
    let l = c.length-length in
    let at = c.loop-again in
    let does = c.step.ensures in
    let waits = c.outwaits.ensures in
    let to_length = passed_on (IsStepOf f) p at.pass l.new.pass at.invariant.passed (passed_measured (IsStepOf f) at.pass l.new.pass l.result l.ensures.same l.ensures.rests l.ensures.told) in
    let to_step = stepped f p l.new.pass c.step.new.pass at.node c.step.result to_length does.same does.rests does.told in
    passed_on (IsStepOf f) p c.step.new.pass c.outwaits.new.pass to_step (passed_read (IsStepOf f) c.step.new.pass c.outwaits.new.pass waits.same waits.rests waits.read)

pub returns-then-not-outwaits-clause-full : goal.returns-then-not-outwaits-clause-full
returns-then-not-outwaits-clause-full c =
    let f = c.args.factory in
    let p = c.args.pass.now in
    let l = c.length-length in
    let at = c.loop-again in
    let waits = c.outwaits.ensures in
    let does = c.in-Err-Refused.ensures in
    let told = rw c.in-Err-Refused.field-0-is at does.told in
    let to_length = passed_on (IsStepOf f) p at.pass l.new.pass at.invariant.passed (passed_measured (IsStepOf f) at.pass l.new.pass l.result l.ensures.same l.ensures.rests l.ensures.told) in
    let went = refused p l.new.pass c.step.new.pass f at.node to_length does.same does.rests c.args.grid.now c.in-Err-Refused.refused does.grid c.requires.factory told in
    let after = passed_read (IsStepOf f) c.step.new.pass c.outwaits.new.pass waits.same waits.rests waits.read in
    λ r is. (omega (arith, to_length.turns, went.1, after.turns), full_read c.step.new.pass c.outwaits.new.pass f waits.read went.2)

pub loop-again-preserved : goal.loop-again-preserved
loop-again-preserved c =
    let f = c.args.factory in
    let p = c.args.pass.now in
    let l = c.length-length in
    let at = c.loop-again in
    let does = c.step.ensures in
    let waits = c.outwaits.ensures in
    let to_length = passed_on (IsStepOf f) p at.pass l.new.pass at.invariant.passed (passed_measured (IsStepOf f) at.pass l.new.pass l.result l.ensures.same l.ensures.rests l.ensures.told) in
    let to_step = stepped f p l.new.pass c.step.new.pass at.node c.step.result to_length does.same does.rests does.told in
    record {
      grid = waits.grid;
      passed = passed_on (IsStepOf f) p c.step.new.pass c.outwaits.new.pass to_step (passed_read (IsStepOf f) c.step.new.pass c.outwaits.new.pass waits.same waits.rests waits.read);
    }

pub returns-clause-passed : goal.returns-clause-passed
returns-clause-passed c =
    let at = c.loop-again in
    let does = c.step-2.ensures in
    stepped c.args.factory c.args.pass.now at.pass c.step-2.new.pass at.node c.step-2.result at.invariant.passed does.same does.rests does.told

pub returns-clause-full : goal.returns-clause-full
returns-clause-full c =
    let at = c.loop-again in
    let does = c.step-2.ensures in
    λ r is.
    let went = refused_as c.args.pass.now at.pass c.step-2.new.pass c.args.factory at.node at.invariant.passed does.same does.rests c.args.grid.now r c.step-2.result is does.grid c.requires.factory does.told in
    (omega (arith, at.invariant.passed.turns, went.1), went.2)
