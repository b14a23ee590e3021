use Rattle.std.proofs.Common.{rules}
use Rattle.grid_lock.proofs.Hands.{lends}
use Rattle.grid_lock.proofs.steps.deliver_in_hand.Goals as goal

pub slot_mut-board-requires : goal.slot_mut-board-requires
slot_mut-board-requires c = (search rules, lends c.args.seat.now.me c.args.seat.now.me.0.seen c.requires.hand)
