use Rattle.std.proofs.Common.{◌∙◌}
use Rattle.router_work.proofs.Passings.{passed_on}
use Rattle.live_readout.specs.Entries.{IsTaking}
use Rattle.live_readout.proofs.router.take_numbers.Goals as goal

pub returns-then-tried-clause-passed : goal.returns-then-tried-clause-passed
returns-then-tried-clause-passed g c =
    passed_on IsTaking c.args.pass.now c.loop-try.pass c.try_number-tried.new.pass c.loop-try.invariant.passed c.try_number-tried.ensures.passed

pub loop-try-preserved : goal.loop-try-preserved
loop-try-preserved g c =
    let at = c.loop-try.invariant in
    let tried = c.try_number-tried.ensures in
    let put = c.put_unless.ensures in
    let taken = c.take.ensures.share in
    record {
      grid = (tried.passed.same.0 ∙ at.grid.0, tried.passed.same.1 ∙ at.grid.1);
      passed = passed_on IsTaking c.args.pass.now c.loop-try.pass c.try_number-tried.new.pass at.passed tried.passed;
      hand = (put.share ∙ taken.0, put.numbers ∙ taken.1);
      look = tried.look;
    }
