use Rattle.std.proofs.Common.{◌≡◌, ◌++◌, take}
use Rattle.tool_top.specs.Layers.{spaced}
use Rattle.tool_top.proofs.layers.put_spaced.Given as goal

abbrev pub invariant-loop-number : goal.invariant-loop-number
invariant-loop-number l = l.text.items ≡ l.initial.text.items ++ spaced (take l.number-index l.numbers)
