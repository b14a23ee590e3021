use Rattle.std.proofs.Common.{subst, sym}
use Rattle.board_core.specs.inside.Kept.{Kept}
use Rattle.board_core.proofs.Noting.{scratch_kept}
use Rattle.board_core.proofs.ledger.Ledger.difference.Goals as goal

pub returns-clause-kept : goal.returns-clause-kept
returns-clause-kept c j h k = scratch_kept j h _ c.image.new.into (subst (Kept j h) (sym c.self.view_is) k) c.image.ensures.room
