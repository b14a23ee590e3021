use Rattle.std.proofs.Common.{◌≡◌, ℕ, ◌<◌, slice_get, Some}
use Rattle.source_model.specs.declared.Static.{Static}
use Rattle.history_replay.specs.inside.Joining.{IsOver}
use Rattle.history_replay.proofs.close.is_complete.Given as goal

abbrev pub invariant-loop-p : goal.invariant-loop-p
invariant-loop-p l = (q : ℕ) (s : Static) → q < l.p → slice_get l.board.job.products q ≡ Some s → IsOver l.board q s.kind
