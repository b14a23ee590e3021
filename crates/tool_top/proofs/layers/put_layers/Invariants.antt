use Rattle.std.proofs.Common.{◌≡◌, ◌++◌, take}
use Rattle.tool_top.specs.Layers.{layer_lines}
use Rattle.tool_top.proofs.layers.put_layers.Given as goal

abbrev pub invariant-loop-below : goal.invariant-loop-below
invariant-loop-below l = l.text.items ≡ l.initial.text.items ++ layer_lines 1 (take l.below l.rows)
