use Rattle.std.proofs.Common.{rules}
use Rattle.board_core.specs.Causes.{claim_of}
use Rattle.grid_lock.specs.Answers.{AcceptsClaim}
use Rattle.grid_lock.proofs.Hands.{accepts, calm}
use Rattle.grid_lock.proofs.grid.Grid.try_claim.Goals as goal

pub returns-in-Ok-clause-told : goal.returns-in-Ok-clause-told
returns-in-Ok-clause-told c =
    let won = c.take_turn.ensures.won (search rules) in
    accepts c.args.pass.now c.pass.inside.seat.table_id c.pass.inside.seat.me c.pass.inside.number c.take_turn.new.seat.me c.claim_in_hand.new.seat.me c.settle.new.seat.me
    (claim_of c.args.plan c.in-Ok.claimed.state) (λ b. AcceptsClaim b c.args.plan c.in-Ok.claimed)
    c.pass.view_is c.pass.invariant.number_is won c.in-Ok.ensures.gains c.in-Ok.ensures.accepted c.settle.ensures.settled

pub returns-in-Ok-clause-rests : goal.returns-in-Ok-clause-rests
returns-in-Ok-clause-rests c =
    calm c.settle.new.seat.table_id c.pass.inside.seat.me c.take_turn.new.seat.me c.claim_in_hand.new.seat.me c.settle.new.seat.me c.pass.inside.number (claim_of c.args.plan c.in-Ok.claimed.state)
    (c.take_turn.ensures.won (search rules)) c.in-Ok.ensures.gains c.settle.ensures.sound c.settle.ensures.settled
