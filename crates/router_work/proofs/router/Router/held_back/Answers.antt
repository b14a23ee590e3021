-- The board answered the first question, or the turn was held all along.
use Rattle.std.proofs.Common.{inr}
use Rattle.router_work.proofs.Tryings.{ask_finds, ask_waits}
use Rattle.router_work.proofs.router.Router.held_back.Goals as goal

pub unreachable-requires : goal.unreachable-requires
unreachable-requires g c =
    ask_finds c.args.self.now c.ask.new.self c.args.number c.ask.result c.ask.ensures.calls c.ask.ensures.told c.rests.ensures.set_up c.requires.below c.in-NoProduct.is

pub returns-in-Waits-clause-answered : goal.returns-in-Waits-clause-answered
returns-in-Waits-clause-answered g c =
    inr (ask_waits c.args.self.now c.ask.new.self c.args.number c.ask.result c.ask.ensures.calls c.ask.ensures.told c.in-Waits.on c.in-Waits.is)
