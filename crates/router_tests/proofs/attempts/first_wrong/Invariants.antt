use Rattle.router_tests.specs.inside.Sites.{MayTry}
use Rattle.router_tests.proofs.attempts.first_wrong.Given as goal

abbrev pub invariant-loop-at : goal.invariant-loop-at
invariant-loop-at g l = MayTry l.router l.count
