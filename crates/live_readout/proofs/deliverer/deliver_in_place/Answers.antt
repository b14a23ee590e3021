use Rattle.std.proofs.Common.{ap, ◌∙◌}
use Rattle.arrival_line.specs.Made.{made_after}
use Rattle.live_readout.specs.inside.Workers.{IsAnyHanding}
use Rattle.router_work.proofs.Passings.{only_read, passed_measured, passed_on, passed_read}
use Rattle.live_readout.proofs.Handings.{read_same}
use Rattle.live_readout.proofs.deliverer.deliver_in_place.Goals as goal

pub returns-then-not-outwaits-clause-passed : goal.returns-then-not-outwaits-clause-passed
returns-then-not-outwaits-clause-passed c =
    let p = c.args.pass.now in
    let l = c.length-length in
    let at = c.loop-again in
    let tried = c.try_outcome.new.pass in
    let waits = c.outwaits.ensures in
    let to_length = passed_on IsAnyHanding p at.pass l.new.pass at.invariant.passed (passed_measured IsAnyHanding at.pass l.new.pass l.result l.ensures.same l.ensures.rests l.ensures.told) in
    let to_try = passed_on IsAnyHanding p l.new.pass tried to_length c.try_outcome.ensures.passed in
    passed_on IsAnyHanding p tried c.outwaits.new.pass to_try (passed_read IsAnyHanding tried c.outwaits.new.pass waits.same waits.rests waits.read)

pub returns-in_default : goal.returns-in_default
returns-in_default c =
    let p = c.args.pass.now in
    let l = c.length-length in
    let at = c.loop-again in
    let tried = c.try_outcome.new.pass in
    let to_length = passed_on IsAnyHanding p at.pass l.new.pass at.invariant.passed (passed_measured IsAnyHanding at.pass l.new.pass l.result l.ensures.same l.ensures.rests l.ensures.told) in
    let none = read_same at.pass l.new.pass (only_read at.pass.view l.result l.new.pass.view l.ensures.told) ∙ at.invariant.made in
    record {
      passed = passed_on IsAnyHanding p l.new.pass tried to_length c.try_outcome.ensures.passed;
      made = c.try_outcome.ensures.made ∙ ap (λ made. made_after made c.args.arrival c.try_outcome.result) none;
    }

pub loop-again-preserved : goal.loop-again-preserved
loop-again-preserved c =
    let p = c.args.pass.now in
    let l = c.length-length in
    let at = c.loop-again in
    let tried = c.try_outcome.new.pass in
    let waits = c.outwaits.ensures in
    let to_length = passed_on IsAnyHanding p at.pass l.new.pass at.invariant.passed (passed_measured IsAnyHanding at.pass l.new.pass l.result l.ensures.same l.ensures.rests l.ensures.told) in
    let to_try = passed_on IsAnyHanding p l.new.pass tried to_length c.try_outcome.ensures.passed in
    let none = read_same at.pass l.new.pass (only_read at.pass.view l.result l.new.pass.view l.ensures.told) ∙ at.invariant.made in
    record {
      grid = waits.grid;
      passed = passed_on IsAnyHanding p tried c.outwaits.new.pass to_try (passed_read IsAnyHanding tried c.outwaits.new.pass waits.same waits.rests waits.read);
      made = read_same tried c.outwaits.new.pass waits.read ∙ (c.in-Later.ensures.made ∙ none);
    }

pub returns-clause-passed : goal.returns-clause-passed
returns-clause-passed c =
    passed_on IsAnyHanding c.args.pass.now c.loop-again.pass c.try_outcome-2.new.pass c.loop-again.invariant.passed c.try_outcome-2.ensures.passed
