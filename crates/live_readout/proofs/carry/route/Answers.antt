use Rattle.std.proofs.Common.{List, length, ap, sym, subst, arith}
use Rattle.board_core.specs.declared.Noted.{Noted}
use Rattle.board_core.specs.History.{entries}
use Rattle.board_core.specs.Laws.{Agrees}
use Rattle.board_core.specs.Position.{Position}
use Rattle.live_readout.specs.Carried.{AreByLiveWorkers}
use Rattle.arrival_line.specs.declared.arrival.Arrival.{Arrival}
use Rattle.router_work.proofs.Crews.{few_outcomes}
use Rattle.live_readout.proofs.Lists.{listed_short}
use Rattle.live_readout.proofs.Routed.{new_history, route_agrees, route_workers}
use Rattle.live_readout.proofs.carry.route.Goals as goal

pub new-requires : goal.new-requires
new-requires g c =
    let few = few_outcomes c.args.board c.args.outcomes.now.given c.history.ensures.legal c.requires.outcomes in
    omega (arith, few)

pub route_live-requires-clause-few : goal.route_live-requires-clause-few
route_live-requires-clause-few g c κs within =
    let gs = c.args.outcomes.now.given in
    let few = few_outcomes c.args.board gs c.history.ensures.legal c.requires.outcomes in
    let short = listed_short 0 gs in
    let same = ap (λ (l : List Arrival). length l) c.in_ok-readout.ensures in
    omega (arith, few, short, same)

pub returns-in-Ok-clause-job : goal.returns-in-Ok-clause-job
returns-in-Ok-clause-job g c = ap (λ (p : Position). p.job) c.in-Ok.ensures.routed.is

pub returns-in-Ok-clause-legal : goal.returns-in-Ok-clause-legal
returns-in-Ok-clause-legal g c = c.in-Ok.ensures.routed.legal

pub returns-in-Ok-clause-given : goal.returns-in-Ok-clause-given
returns-in-Ok-clause-given g c =
    let routed = c.in-Ok.ensures.routed in
    let gs = c.args.outcomes.now.given in
    subst (λ (h : List Noted). Agrees gs (entries h)) (sym (new_history c.args.board c.in-Ok.live.board routed.added c.requires.new routed.is))
    (route_agrees c.law_past.ensures.stand gs _ c.in_ok-readout.ensures c.args.k c.args.board c.in-Ok.live.board routed)

pub returns-in-Ok-clause-workers : goal.returns-in-Ok-clause-workers
returns-in-Ok-clause-workers g c =
    let routed = c.in-Ok.ensures.routed in
    subst AreByLiveWorkers (sym (new_history c.args.board c.in-Ok.live.board routed.added c.requires.new routed.is))
    (route_workers _ c.args.k c.args.board c.in-Ok.live.board routed c.requires.routers.1)
