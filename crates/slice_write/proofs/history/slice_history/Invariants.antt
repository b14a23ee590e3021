use Rattle.std.proofs.Common.{◌≡◌, ◌++◌, List}
use Rattle.board_core.specs.declared.Noted.{Noted}
use Rattle.board_core.specs.History.{entries}
use Rattle.slice_write.specs.Slices.{sliced, slices_of}
use Rattle.slice_write.specs.inside.Tables.{job, Keeps}
use Rattle.slice_write.proofs.history.slice_history.Given as goal

abbrev pub invariant-loop-noted : goal.invariant-loop-noted
invariant-loop-noted l =
    (seen : List Noted) × (seen ++ l.noted-iterator ≡ l.history) × Keeps (job l.products l.layout l.fails) (sliced (job l.products l.layout l.fails) (entries seen)) l.ledger × (l.slices.items ≡ slices_of (job l.products l.layout l.fails) (entries seen))
