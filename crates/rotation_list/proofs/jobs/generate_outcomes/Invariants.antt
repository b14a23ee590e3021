use Rattle.std.proofs.Common.{◌≡◌, ℕ, ◌<◌, ◌≤◌, ◌++◌, codes, drop}
use Rattle.source_model.specs.Circuits.{kinds}
use Rattle.rotation_list.specs.Generated.{draw, outcome_lines}
use Rattle.rotation_list.proofs.Drawing.{Remains}
use Rattle.rotation_list.proofs.jobs.generate_outcomes.Given as goal

abbrev pub invariant-loop-item : goal.invariant-loop-item
invariant-loop-item l = record {
  small : l.drawn < 4294967296;
  few : l.product ≤ l.item-index;
  lines : (n d : ℕ) → l.fn.last ≡ draw n d → Remains (codes "outcomes 1\n" ++ outcome_lines n d 0 (kinds l.items)) l.text.items n l.drawn l.product (drop l.item-index l.items);
}
