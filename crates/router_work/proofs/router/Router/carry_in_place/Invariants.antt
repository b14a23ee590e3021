-- Each try so far left the hand.
use Rattle.std.specs.Prelude.{◌≡◌}
use Rattle.router_work.specs.inside.Steps.{Goes}
use Rattle.router_work.proofs.router.Router.carry_in_place.Given as goal

abbrev pub invariant-loop-again : goal.invariant-loop-again
invariant-loop-again g l = record {
  goes : Goes l.initial.self l.self;
  hand : l.self.hand ≡ l.initial.self.hand;
}
