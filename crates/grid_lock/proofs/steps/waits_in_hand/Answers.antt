use Rattle.std.proofs.Common.{rules, IfOk, subst}
use Rattle.board_core.specs.Position.{Position}
use Rattle.grid_lock.specs.Answers.{WaitsFor}
use Rattle.grid_lock.proofs.Hands.{lends}
use Rattle.grid_lock.proofs.Refusals.{board_is}
use Rattle.grid_lock.proofs.steps.waits_in_hand.Goals as goal

pub slot_mut-board-requires : goal.slot_mut-board-requires
slot_mut-board-requires c = (search rules, lends c.args.seat.now.me c.args.seat.now.me.0.seen c.requires.hand)

pub returns-clause-waits : goal.returns-clause-waits
returns-clause-waits c =
    subst (λ (b : Position). IfOk c.waits_on.result (WaitsFor b c.args.p)) (board_is c.args.seat.now.me c.slot_mut-board.result.now c.requires.hand c.slot_mut-board.ensures.value)
    c.waits_on.ensures.waits
