use Rattle.board_core.specs.Position.{past}
use Rattle.board_core.proofs.KeptLegal.{stays}
use Rattle.board_core.proofs.Boards.{kept_at, legal_at, product_is}
use Rattle.board_core.proofs.Claiming.{has_axis, axis_differs}
use Rattle.board_core.proofs.desk.Board.compare.Goals as goal

pub invariant_of-self : goal.invariant_of-self
invariant_of-self c = (stays c.self.inside.products.items c.self.inside.layout c.self.inside.history c.self.inside.ledger c.difference.new.self (c.difference.ensures.kept _ _ c.self.invariant)).0

pub invariant_of-self-2 : goal.invariant_of-self-2
invariant_of-self-2 c = (stays c.self.inside.products.items c.self.inside.layout c.self.inside.history c.self.inside.ledger c.difference.new.self (c.difference.ensures.kept _ _ c.self.invariant)).0

pub returns-in-Some-clause-axis : goal.returns-in-Some-clause-axis
returns-in-Some-clause-axis c =
    let k = kept_at _ _ _ _ c.args.self.now c.self.view_is c.self.invariant in
    let own = product_is _ _ _ _ c.args.self.now c.self.view_is c.self.invariant c.args.plan.now.number c.index.result.now c.requires.before.static c.requires.before.product c.index.ensures in
    axis_differs c.args.self.now c.args.plan.now c.index.result.now c.in-Some.at c.requires (legal_at _ _ _ _ c.args.self.now c.self.view_is c.self.invariant) own (c.in-Some.ensures.first c.args.self.now.job (past c.args.self.now) k)

pub returns-clause-axis : goal.returns-clause-axis
returns-clause-axis c =
    let k = kept_at _ _ _ _ c.args.self.now c.self.view_is c.self.invariant in
    let own = product_is _ _ _ _ c.args.self.now c.self.view_is c.self.invariant c.args.plan.now.number c.index.result.now c.requires.before.static c.requires.before.product c.index.ensures in
    has_axis c.args.self.now c.args.plan.now c.index.result.now c.requires (legal_at _ _ _ _ c.args.self.now c.self.view_is c.self.invariant) own (c.in_default.ensures.first c.args.self.now.job (past c.args.self.now) k)
