use Rattle.std.proofs.Common.{◌≡◌, map, take}
use Rattle.std.specs.Prelude.{Option, unwrap_or}
use Rattle.source_model.specs.declared.Given.{Given}
use Rattle.source_model.specs.declared.Given.TheVariants.{Settled}
use Rattle.side_by_side.proofs.axes.outcomes_of.Given as goal

abbrev pub invariant-loop-outcome : goal.invariant-loop-outcome
invariant-loop-outcome l = l.given.items ≡ map (λ (o : Option Given). unwrap_or o Settled) (take l.outcome-index l.outcome-items)
