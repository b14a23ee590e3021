use Rattle.std.proofs.Common.{◌≡◌}
use Rattle.std.specs.List.{filter, range_with_len}
use Rattle.live_readout.specs.Routes.{has_factory}
use Rattle.live_readout.proofs.route.factories.Given as goal

abbrev pub invariant-loop-factory : goal.invariant-loop-factory
invariant-loop-factory l = l.factories.items ≡ filter (has_factory l.layout) (range_with_len 0 l.factory)
