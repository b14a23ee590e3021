use Rattle.commute_order.specs.inside.Sharing.{ListsWriters}
use Rattle.commute_order.proofs.sharing.list_writers.Given as goal

abbrev pub invariant-loop-p : goal.invariant-loop-p
invariant-loop-p l = ListsWriters l.uses l.p l.writers.items
