use Rattle.std.proofs.Common.{◌≡◌, ℕ, ◌<◌, Some, length, slice_get}
use Rattle.magic_pool.specs.Recount.{ready_of}
use Rattle.board_core.specs.Legal.{BoardJob}
use Rattle.board_core.specs.History.{History, steps, taken_states}
use Rattle.board_core.specs.inside.Kept.{Kept}
use Rattle.board_core.proofs.ledger.Ledger.show_ready.Given as goal

abbrev pub invariant-loop-f : goal.invariant-loop-f
invariant-loop-f l = (j : BoardJob) (h : History) → Kept j h l.self → (f : ℕ) → f < l.f → slice_get l.counts f ≡ Some (length (ready_of j.fails (steps h) (taken_states h) f))
