use Rattle.board_core.proofs.Noting.{step_noted}
use Rattle.board_core.proofs.ledger.Ledger.step.Goals as goal

pub returns-clause-kept : goal.returns-clause-kept
returns-clause-kept c = step_noted c.args.f _ _ _ c.step.result c.self.view_is c.step.ensures.fails c.step.ensures.makers c.step.ensures.history
