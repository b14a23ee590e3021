-- Its hand took the first numbers.
use Rattle.router_tests.proofs.Tries.{may_try}
use Rattle.router_tests.proofs.attempts.play.Goals as goal

pub first_wrong-requires-after_bounds : goal.first_wrong-requires-after_bounds
first_wrong-requires-after_bounds c κs =
    may_try c.in_ok-share.share c.take_first.new.hand c.new-router.result c.in_ok-site.site.outcomes.given c.args.count c.in_ok-take_first.ensures.taken c.in_ok-share.ensures.numbers c.new-router.ensures.hand c.new-router.ensures.given
