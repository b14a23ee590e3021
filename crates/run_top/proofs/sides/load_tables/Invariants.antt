use Rattle.std.proofs.Common.{◌≡◌, ℕ, ◌≤◌, List, length, map, string_bytes}
use Rattle.job_read.specs.Shelves.{shelved}
use Rattle.run_top.specs.Sides.{TablesStand}
use Rattle.run_top.specs.inside.Reads.{AreTablesFor}
use Rattle.run_top.proofs.sides.load_tables.Given as goal

abbrev pub invariant-loop-program : goal.invariant-loop-program
invariant-loop-program g l = record {
  told : (n : List ℕ) → g.S.Shelf.tells l.shelf n ≡ g.S.Shelf.tells l.fn.shelf n;
  counts : (n : List ℕ) → g.S.Shelf.faults l.fn.shelf n ≤ g.S.Shelf.faults l.shelf n;
  count : length l.tables.items ≡ l.program;
  kept : AreTablesFor l.circuits l.tables.items;
  stand : TablesStand (shelved g.S.Shelf.tells g.S.Shelf.faults l.fn.shelf l.shelf) (map string_bytes l.pairs) l.circuits l.layout l.tables.items;
}
