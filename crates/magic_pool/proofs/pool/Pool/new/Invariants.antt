use Rattle.std.proofs.Common.{◌≡◌, ◌<◌, ℕ, length, get_or}
use Rattle.magic_pool.specs.declared.factory.Factory.{Factory}
use Rattle.magic_pool.specs.inside.Factories.{Serves, IsFresh}
use Rattle.magic_pool.proofs.pool.Pool.new.Given as goal

abbrev pub invariant-loop-number : goal.invariant-loop-number
invariant-loop-number l = record {
  count : length l.factories.items ≡ l.number;
  each : (f : ℕ) (d : Factory) → f < l.number → Serves l.makers l.fails f (get_or l.factories.items f d);
  fresh : (f : ℕ) (d : Factory) → f < l.number → IsFresh (get_or l.factories.items f d);
}
