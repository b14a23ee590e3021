use Rattle.std.proofs.Common.{ℕ, ◌≤◌, length}
use Rattle.std.specs.List.{All}
use Rattle.patch_layout.specs.Grid.{HasStore}
use Rattle.router_work.proofs.routing.factories.Given as goal

abbrev pub invariant-loop-factory : goal.invariant-loop-factory
invariant-loop-factory l = record {
  stores : All (λ (f : ℕ). (s : ℕ) × HasStore l.layout f s) l.factories.items;
  few : length l.factories.items ≤ l.factory;
}
