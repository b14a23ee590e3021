use Rattle.std.proofs.Common.{subst}
use Rattle.board_core.specs.Position.{IsLegal}
use Rattle.board_core.proofs.KeptLegal.{kept_legal}
use Rattle.board_core.proofs.desk.Board.history.Goals as goal

pub returns-clause-legal : goal.returns-clause-legal
returns-clause-legal c = subst IsLegal c.self.view_is (kept_legal _ _ _ c.self.invariant)
