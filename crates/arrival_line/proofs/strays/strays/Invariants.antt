use Rattle.std.proofs.Common.{◌≡◌, take}
use Rattle.std.specs.List.{filter, range_with_len}
use Rattle.arrival_line.specs.declared.arrival.Arrival.{Arrival}
use Rattle.arrival_line.specs.Strays.{fits, serves, is_stray}
use Rattle.arrival_line.proofs.strays.strays.Given as goal

abbrev pub invariant-loop-i : goal.invariant-loop-i
invariant-loop-i l = record {
  sifts : (b : Arrival) → fits l.wanted.items b ≡ serves l.fn.wanted.items (take l.i l.taken) b;
  found : l.found.items ≡ filter (is_stray l.fn.wanted.items l.taken) (range_with_len 0 l.i);
}
