use Rattle.number_share.specs.Hands as shares
use Rattle.router_tests.specs.inside.Sites.{HoldsBelow}
use Rattle.router_tests.proofs.site.take_first.Given as goal

abbrev pub invariant-loop-number : goal.invariant-loop-number
invariant-loop-number l = record {
  share : shares.IsHandOf l.share l.hand;
  taken : HoldsBelow l.share l.hand l.number;
}
