use Rattle.std.proofs.Common.{◌≡◌, ◌+◌, ◌-◌, ◌≤◌, drop, length}
use Rattle.patch_base.specs.Texts.{lines}
use Rattle.product_list.specs.ListText.{with_lines}
use Rattle.product_list.proofs.list.read_lines.Given as goal

abbrev pub invariant-loop-line : goal.invariant-loop-line
invariant-loop-line l =
    (with_lines l.two 2 l.fn.first (lines (drop l.fn.start l.text)) ≡ with_lines l.two l.number l.draft (lines (drop l.at l.text)))
    × (l.number ≤ l.at + 1)

abbrev pub decreases-loop-line : goal.decreases-loop-line
decreases-loop-line l = length l.text - l.at
