use Rattle.std.proofs.Common.{◌≡◌, ◌+◌, ◌++◌, ◌≤◌, drop}
use Rattle.std.specs.Prelude.{sum_by}
use Rattle.rotation_list.specs.Items.{hidden_in, items_from}
use Rattle.rotation_list.proofs.items.program_items.Given as goal

abbrev pub invariant-loop-flat : goal.invariant-loop-flat
invariant-loop-flat l = record {
  items : items_from l.qubits l.bits l.flats ≡ l.items.items ++ items_from l.qubits (l.bits + l.hidden) (drop l.flat-index l.flats);
  hidden : sum_by hidden_in l.flats ≡ l.hidden + sum_by hidden_in (drop l.flat-index l.flats);
  few : l.hidden ≤ l.flat-index;
}
