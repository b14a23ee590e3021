use Rattle.std.proofs.Common.{◌≡◌, ◌≤◌, ◌+◌, ◌*◌, ◌++◌, ◌∷◌, length, false}
use Rattle.std.specs.Prelude.{flat_map, filter, decimal, slice_index_or}
use Rattle.slice_write.specs.Slices.{upto}
use Rattle.slice_write.proofs.text.put_steps.Given as goal

abbrev pub invariant-loop-factory : goal.invariant-loop-factory
invariant-loop-factory l = record {
  text : l.pen ≡ l.initial.pen ++ flat_map (λ f. 32 ∷ decimal f) (filter (λ f. slice_index_or l.steps f false) (upto l.factory));
  few : length l.pen ≤ length l.initial.pen + 11 * l.factory;
}
