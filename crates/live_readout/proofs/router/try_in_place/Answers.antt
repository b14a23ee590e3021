use Rattle.std.proofs.Common.{◌∙◌}
use Rattle.router_work.proofs.Passings.{passed_on, passed_read}
use Rattle.live_readout.specs.Entries.{IsTaking}
use Rattle.live_readout.proofs.router.try_in_place.Goals as goal

pub returns-then-tried-clause-passed : goal.returns-then-tried-clause-passed
returns-then-tried-clause-passed g c =
    let p = c.args.pass.now in
    let to_length = passed_on IsTaking p c.loop-again.pass c.length_now-length.new.pass c.loop-again.invariant.passed c.length_now-length.ensures in
    passed_on IsTaking p c.length_now-length.new.pass c.begin-tried.new.pass to_length c.begin-tried.ensures.passed

pub returns-then-not-outwaits-clause-passed : goal.returns-then-not-outwaits-clause-passed
returns-then-not-outwaits-clause-passed g c =
    let p = c.args.pass.now in
    let waits = c.outwaits.ensures in
    let to_length = passed_on IsTaking p c.loop-again.pass c.length_now-length.new.pass c.loop-again.invariant.passed c.length_now-length.ensures in
    let to_tried = passed_on IsTaking p c.length_now-length.new.pass c.begin-tried.new.pass to_length c.begin-tried.ensures.passed in
    passed_on IsTaking p c.begin-tried.new.pass c.outwaits.new.pass to_tried (passed_read IsTaking c.begin-tried.new.pass c.outwaits.new.pass waits.same waits.rests waits.read)

pub loop-again-preserved : goal.loop-again-preserved
loop-again-preserved g c =
    let p = c.args.pass.now in
    let waits = c.outwaits.ensures in
    let at = c.loop-again.invariant in
    let to_length = passed_on IsTaking p c.loop-again.pass c.length_now-length.new.pass at.passed c.length_now-length.ensures in
    let to_tried = passed_on IsTaking p c.length_now-length.new.pass c.begin-tried.new.pass to_length c.begin-tried.ensures.passed in
    let all = passed_on IsTaking p c.begin-tried.new.pass c.outwaits.new.pass to_tried (passed_read IsTaking c.begin-tried.new.pass c.outwaits.new.pass waits.same waits.rests waits.read) in
    record {
      grid = (all.same.0 ∙ c.requires.pass.0, all.same.1 ∙ c.requires.pass.1);
      passed = all;
      look = c.begin-tried.ensures.look;
    }

pub returns-clause-passed : goal.returns-clause-passed
returns-clause-passed g c =
    passed_on IsTaking c.args.pass.now c.loop-again.pass c.begin.new.pass c.loop-again.invariant.passed c.begin.ensures.passed
