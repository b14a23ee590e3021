-- Nothing is held and the layout is open, so the planner has a region, and nothing speaks against its claim.
use Rattle.std.proofs.Common.{subst}
use Rattle.patch_layout.specs.Grid.{Grid}
use Rattle.region_plan.specs.Answer.{Answers, IsRegion}
use Rattle.finish_run.proofs.Planning.{letter_there, no_other, claimable}
use Rattle.finish_run.proofs.serving.region.Goals as goal

pub plan-requires-clause-letter : goal.plan-requires-clause-letter
plan-requires-clause-letter g c =
    letter_there c.args.board.now c.requires.shown.0 c.args.look.now c.history.ensures.legal c.requires.shown.1 c.requires.shown.2 c.requires.stocked
    c.law_whole_fits.ensures.fits c.law_whole_fits.ensures.whole c.law_used.ensures c.law_kinds.ensures.stay

pub unreachable-requires : goal.unreachable-requires
unreachable-requires g c =
    no_other c.args.board.now c.requires.shown.0 c.args.look.now c.history.ensures.legal c.requires.shown.1 c.requires.shown.2 c.requires.stocked
    c.law_whole_fits.ensures.fits c.law_whole_fits.ensures.whole c.law_used.ensures c.law_kinds.ensures.stay
    (g.P.Planner.meets c.layout.result.now c.args.look.now) c.plan.result
    (subst (λ (k : Grid). Answers (g.P.Planner.meets c.layout.result.now c.args.look.now) k c.args.look.now c.plan.result) c.layout.ensures c.plan.ensures)
    c.in-Taken.is

pub returns-in-Region-clause-claimable : goal.returns-in-Region-clause-claimable
returns-in-Region-clause-claimable g c =
    claimable c.args.board.now c.requires.shown.0 c.args.look.now c.history.ensures.legal c.requires.shown.1 c.requires.shown.2 c.requires.stocked
    c.law_whole_fits.ensures.fits c.law_whole_fits.ensures.whole c.law_used.ensures c.law_kinds.ensures.stay
    c.in-Region.plan (subst (λ (k : Grid). IsRegion k c.args.look.now c.in-Region.plan) c.layout.ensures c.in-Region.ensures.2)
