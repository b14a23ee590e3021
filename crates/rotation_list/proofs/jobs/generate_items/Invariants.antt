use Rattle.std.proofs.Common.{◌≡◌, ◌*◌, ◌<◌}
use Rattle.rotation_list.specs.Generated.{draw, operations}
use Rattle.rotation_list.proofs.jobs.generate_items.Given as goal

abbrev pub invariant-loop-k : goal.invariant-loop-k
invariant-loop-k l = record {
  items : l.items.items ≡ operations l.n l._k;
  last : l.last ≡ draw l.n (3 * l._k);
  small : l.last < 4294967296;
}
