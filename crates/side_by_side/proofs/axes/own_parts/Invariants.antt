use Rattle.std.proofs.Common.{◌≡◌, map, take}
use Rattle.side_by_side.specs.Programs.{own_part}
use Rattle.side_by_side.proofs.axes.own_parts.Given as goal

abbrev pub invariant-loop-axis : goal.invariant-loop-axis
invariant-loop-axis l = l.parts.items ≡ map (own_part l.before l.count) (take l.axis-index l.axes)
