-- The product whose turn it is waits on none, so the look has the axis that source order gives it.
use Rattle.finish_run.proofs.Turns.{turn_undone, look_waits, look_made}
use Rattle.finish_run.proofs.making.show.Goals as goal

pub returns-clause-shown : goal.returns-clause-shown
returns-clause-shown c = record {
  turn = c.requires.turn;
  shows = c.in-Ok.ensures.shown;
  axis_of = c.in-Ok.ensures.source (turn_undone c.args.board.now c.args.p c.requires.turn) (look_waits c.args.board.now c.args.p c.look.new.look c.requires.turn c.in-Ok.ensures.shown);
  letter = c.in-Ok.ensures.letter;
}

pub returns-clause-made : goal.returns-clause-made
returns-clause-made c =
    look_made c.args.board.now c.args.p c.args.look.now c.look.new.look c.requires.made c.in-Ok.ensures.shown c.in-Ok.ensures.long
