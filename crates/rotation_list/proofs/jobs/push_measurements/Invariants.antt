use Rattle.std.proofs.Common.{◌≡◌, ◌++◌}
use Rattle.rotation_list.specs.Generated.{measurements}
use Rattle.rotation_list.proofs.jobs.push_measurements.Given as goal

abbrev pub invariant-loop-q : goal.invariant-loop-q
invariant-loop-q l = l.items.items ≡ l.fn.items.items ++ measurements l.q
