use Rattle.std.proofs.Common.{ap}
use Rattle.board_core.specs.Position.{Position, past}
use Rattle.board_core.proofs.Boards.{kept_at}
use Rattle.board_core.proofs.Placing.{unfit, few_cells, cells_within, held_here, empty_here, stocked_here, portless_here}
use Rattle.board_core.proofs.desk.Board.place.Goals as goal

pub returns-in-Some : goal.returns-in-Some
returns-in-Some c = unfit c.args.self.now c.args.plan.now c.args.kind c.is_rotation.result c.self.inside.layout c.requires.axis c.requires.kind (ap (λ (b : Position). b.job.grid) c.self.view_is) c.is_rotation.ensures c.in-Some.fault c.in-Some.ensures.first

pub least_held-requires-clause-few : goal.least_held-requires-clause-few
least_held-requires-clause-few c = few_cells c.args.self.now c.args.plan.now c.args.kind c.is_rotation.result c.self.inside.layout c.requires.axis c.requires.kind (ap (λ (b : Position). b.job.grid) c.self.view_is) c.is_rotation.ensures c.in_default.ensures.first c.cells-cells.result.now c.cells-cells.ensures c.self.invariant.sound

pub least_held-requires-clause-cells : goal.least_held-requires-clause-cells
least_held-requires-clause-cells c = cells_within c.args.self.now c.args.plan.now c.args.kind c.is_rotation.result c.self.inside.layout c.requires.axis c.requires.kind (ap (λ (b : Position). b.job.grid) c.self.view_is) c.is_rotation.ensures c.in_default.ensures.first c.cells-cells.result.now c.cells-cells.ensures

pub returns-in-Some-least_held : goal.returns-in-Some-least_held
returns-in-Some-least_held c = held_here c.args.self.now c.args.plan.now c.args.kind c.is_rotation.result c.self.inside.layout c.requires.axis c.requires.kind (ap (λ (b : Position). b.job.grid) c.self.view_is) c.is_rotation.ensures c.in_default.ensures.first c.self.inside.ledger.holders c.cells-cells.result.now c.least_held.result (kept_at _ _ _ _ c.args.self.now c.self.view_is c.self.invariant).holders c.cells-cells.ensures c.least_held.ensures c.in-Some-least_held.cell c.in-Some-least_held.by c.in-Some-least_held.is

pub returns-then-ready-eq0 : goal.returns-then-ready-eq0
returns-then-ready-eq0 c = empty_here c.args.self.now c.args.plan.now c.args.kind c.is_rotation.result c.self.inside.layout c.requires.axis c.requires.kind (ap (λ (b : Position). b.job.grid) c.self.view_is) c.is_rotation.ensures c.in_default.ensures.first c.self.inside.ledger.holders c.cells-cells.result.now c.least_held.result (kept_at _ _ _ _ c.args.self.now c.self.view_is c.self.invariant).holders c.cells-cells.ensures c.least_held.ensures c.in_default-least_held.is c.in-Some-port.port c.ready.result c.in-Some-port.is (c.ready.ensures c.args.self.now.job (past c.args.self.now) (kept_at _ _ _ _ c.args.self.now c.self.view_is c.self.invariant)) c.if-ready-eq0.true

pub returns-else-ready-eq0 : goal.returns-else-ready-eq0
returns-else-ready-eq0 c = stocked_here c.args.self.now c.args.plan.now c.args.kind c.is_rotation.result c.self.inside.layout c.requires.axis c.requires.kind (ap (λ (b : Position). b.job.grid) c.self.view_is) c.is_rotation.ensures c.in_default.ensures.first c.self.inside.ledger.holders c.cells-cells.result.now c.least_held.result (kept_at _ _ _ _ c.args.self.now c.self.view_is c.self.invariant).holders c.cells-cells.ensures c.least_held.ensures c.in_default-least_held.is c.in-Some-port.port c.ready.result c.in-Some-port.is (c.ready.ensures c.args.self.now.job (past c.args.self.now) (kept_at _ _ _ _ c.args.self.now c.self.view_is c.self.invariant)) c.if-ready-eq0.false

pub returns-in_default-port : goal.returns-in_default-port
returns-in_default-port c = portless_here c.args.self.now c.args.plan.now c.args.kind c.is_rotation.result c.self.inside.layout c.requires.axis c.requires.kind (ap (λ (b : Position). b.job.grid) c.self.view_is) c.is_rotation.ensures c.in_default.ensures.first c.self.inside.ledger.holders c.cells-cells.result.now c.least_held.result (kept_at _ _ _ _ c.args.self.now c.self.view_is c.self.invariant).holders c.cells-cells.ensures c.least_held.ensures c.in_default-least_held.is c.in_default-port.is
