use Rattle.std.proofs.Common.{◌≡◌, ℕ, ◌+◌, ◌<◌, [], length, get_or, replicate}
use Rattle.tool_top.specs.Layers.{members_below}
use Rattle.tool_top.proofs.layers.rows_of.Given as goal

abbrev pub invariant-loop : goal.invariant-loop
invariant-loop l = l.rows.items ≡ replicate l.counter []

abbrev pub invariant-loop-product : goal.invariant-loop-product
invariant-loop-product l = record {
  size : length l.rows.items ≡ l.count;
  rows : (k : ℕ) → k < l.count → get_or l.rows.items k [] ≡ members_below l.layer l.product (k + 1);
}
