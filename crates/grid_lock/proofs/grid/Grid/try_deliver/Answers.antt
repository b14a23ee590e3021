use Rattle.std.proofs.Common.{rules}
use Rattle.grid_lock.specs.Answers.{AcceptsOutcome}
use Rattle.grid_lock.proofs.Hands.{accepts, calm}
use Rattle.grid_lock.proofs.grid.Grid.try_deliver.Goals as goal

pub returns-in-Ok-clause-told : goal.returns-in-Ok-clause-told
returns-in-Ok-clause-told c =
    let won = c.take_turn.ensures.won (search rules) in
    let told = c.in-Ok.ensures.accepted in (
      told.0,
      accepts c.args.pass.now c.pass.inside.seat.table_id c.pass.inside.seat.me c.pass.inside.number c.take_turn.new.seat.me c.deliver_in_hand.new.seat.me c.settle.new.seat.me
          told.0 (λ b. AcceptsOutcome b c.args.p c.args.given told.0 c.in-Ok.place)
          c.pass.view_is c.pass.invariant.number_is won told.1 told.2 c.settle.ensures.settled,
    )

pub returns-in-Ok-clause-rests : goal.returns-in-Ok-clause-rests
returns-in-Ok-clause-rests c =
    calm c.settle.new.seat.table_id c.pass.inside.seat.me c.take_turn.new.seat.me c.deliver_in_hand.new.seat.me c.settle.new.seat.me c.pass.inside.number c.in-Ok.ensures.accepted.0
    (c.take_turn.ensures.won (search rules)) c.in-Ok.ensures.accepted.1 c.settle.ensures.sound c.settle.ensures.settled
