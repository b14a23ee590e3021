use Rattle.std.proofs.Common.{◌≡◌, ℕ, ◌≤◌, List, All, length, map, string_bytes}
use Rattle.job_read.specs.Kept.{IsCircuit}
use Rattle.job_read.specs.Shelves.{shelved}
use Rattle.run_top.specs.Sides.{CircuitsStand}
use Rattle.run_top.proofs.sides.load_circuits.Given as goal

abbrev pub invariant-loop-program : goal.invariant-loop-program
invariant-loop-program g l = record {
  told : (n : List ℕ) → g.S.Shelf.tells l.shelf n ≡ g.S.Shelf.tells l.fn.shelf n;
  counts : (n : List ℕ) → g.S.Shelf.faults l.fn.shelf n ≤ g.S.Shelf.faults l.shelf n;
  count : length l.circuits.items ≡ l.program;
  kept : All IsCircuit l.circuits.items;
  stand : CircuitsStand (shelved g.S.Shelf.tells g.S.Shelf.faults l.fn.shelf l.shelf) (map string_bytes l.pairs) l.circuits.items;
}
