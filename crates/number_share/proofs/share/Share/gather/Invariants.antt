use Rattle.std.proofs.Common.{◌≡◌, ◌-◌, ◌++◌, min}
use Rattle.std.specs.List.{range_with_len}
use Rattle.number_share.proofs.share.Share.gather.Given as goal

abbrev pub invariant-loop-number : goal.invariant-loop-number
invariant-loop-number l = l.left.items ≡ l.initial.left.items ++ range_with_len (min l.next l.numbers) (l.number - min l.next l.numbers)
