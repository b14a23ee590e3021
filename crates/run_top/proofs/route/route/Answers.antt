use Rattle.std.proofs.Common.{List, ap, sym, subst}
use Rattle.board_core.specs.declared.Noted.{Noted}
use Rattle.board_core.specs.History.{entries}
use Rattle.board_core.specs.Laws.{Agrees}
use Rattle.board_core.specs.Position.{Position}
use Rattle.run_top.specs.Carried.{AreByWorkers}
use Rattle.run_top.proofs.Routed.{routed_agrees, routed_workers, new_history}
use Rattle.run_top.proofs.route.route.Goals as goal

pub returns-in-Ok-clause-job : goal.returns-in-Ok-clause-job
returns-in-Ok-clause-job g c = ap (λ (p : Position). p.job) c.in-Ok.ensures.routed.is

pub returns-in-Ok-clause-legal : goal.returns-in-Ok-clause-legal
returns-in-Ok-clause-legal g c = c.in-Ok.ensures.routed.legal

pub returns-in-Ok-clause-given : goal.returns-in-Ok-clause-given
returns-in-Ok-clause-given g c =
    subst (λ (h : List Noted). Agrees c.args.outcomes.now.given (entries h)) (sym (new_history c.args.board c.in-Ok.board c.in-Ok.ensures.routed.added c.requires.new c.in-Ok.ensures.routed.is))
    (routed_agrees c.law_past.ensures.stand c.args.outcomes.now.given c.args.k c.in-Ok.ensures.routed.added c.in-Ok.ensures.routed.by_workers)

pub returns-in-Ok-clause-workers : goal.returns-in-Ok-clause-workers
returns-in-Ok-clause-workers g c =
    subst AreByWorkers (sym (new_history c.args.board c.in-Ok.board c.in-Ok.ensures.routed.added c.requires.new c.in-Ok.ensures.routed.is))
    (routed_workers c.args.outcomes.now.given c.args.k c.in-Ok.ensures.routed.added c.requires.routers.1 c.in-Ok.ensures.routed.by_workers)
