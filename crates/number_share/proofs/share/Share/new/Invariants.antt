use Rattle.std.proofs.Common.{◌≡◌, ◌-◌, [], replicate}
use Rattle.number_share.specs.inside.Views.{opener}
use Rattle.number_share.specs.Hands.{unused}
use Rattle.number_share.proofs.share.Share.new.Given as goal

abbrev pub invariant-loop : goal.invariant-loop
invariant-loop l = record {
  seat : l.root.table_id ≡ l.table.shared.table_id;
  root : l.root.me ≡ (opener l.numbers (l.owners - l.counter), []);
  hands : l.hands.items ≡ replicate l.counter (unused l.table.shared.table_id l.numbers);
}
