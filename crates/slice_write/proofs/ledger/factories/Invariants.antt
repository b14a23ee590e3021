use Rattle.std.proofs.Common.{◌≡◌, ◌<◌, ℕ, length, get_or}
use Rattle.slice_write.specs.declared.factory.Factory.{Factory}
use Rattle.slice_write.specs.inside.Factories.{IsFresh}
use Rattle.slice_write.proofs.ledger.factories.Given as goal

abbrev pub invariant-loop-number : goal.invariant-loop-number
invariant-loop-number l = record {
  count : length l.factories.items ≡ l.number;
  fresh : (f : ℕ) (d : Factory) → f < l.number → IsFresh l.fails f (get_or l.factories.items f d);
}
