use Rattle.std.proofs.Common.{◌≡◌, map, take, Some}
use Rattle.outcome_table.proofs.draft.filled.Given as goal

abbrev pub invariant-loop-p : goal.invariant-loop-p
invariant-loop-p l = take l.p l.slots ≡ map (λ g. Some g) l.table.items
