use Rattle.least_region.specs.inside.Pick.{BestPort}
use Rattle.least_region.proofs.picks.best_port.Given as goal

abbrev pub invariant-loop-factory : goal.invariant-loop-factory
invariant-loop-factory l = BestPort l.layout l.look l.sizes l.factory l.fn.pick l.best
