use Rattle.number_share.specs.Hands.{IsHandOf}
use Rattle.core_tests.proofs.share.drain.Given as goal

abbrev pub invariant-loop : goal.invariant-loop
invariant-loop l = IsHandOf l.share l.hand
