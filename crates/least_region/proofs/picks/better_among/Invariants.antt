use Rattle.least_region.specs.inside.Pick.{BetterTo}
use Rattle.least_region.proofs.picks.better_among.Given as goal

abbrev pub invariant-loop-place : goal.invariant-loop-place
invariant-loop-place l = BetterTo l.sizes l.places l.place-index l.port l.fn.pick l.best
