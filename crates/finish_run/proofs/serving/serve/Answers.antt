-- The claim, the delivery and the release come next, one after another, and none of them is refused.
use Rattle.std.proofs.Common.{◌≡◌, ◌<◌, ℕ, List, Some, false, length, slice_get, get_or, ap, ◌∙◌}
use Rattle.std.proofs.lemmas.Option.{slice_get-get_or}
use Rattle.source_model.specs.declared.Given.{Given}
use Rattle.source_model.specs.declared.Given.TheVariants.{Rotation, Settled}
use Rattle.finish_run.proofs.Onward.{goes_any}
use Rattle.finish_run.proofs.Carried.{claim_deliverable, delivery_releasable, is_served, outcomes_same, served_ended}
use Rattle.finish_run.proofs.serving.serve.Goals as goal

abbrev here : List Given → ℕ → Given
here gs p = get_or gs p (Rotation false false)

there : (gs : List Given) (p : ℕ) → p < length gs → slice_get gs p ≡ Some (here gs p)
there gs p l = slice_get-get_or gs p (Rotation false false) l

unsettled : (gs : List Given) (p : ℕ) → p < length gs → (slice_get gs p ≡ Some Settled → ⊥) → here gs p ≡ Settled → ⊥
unsettled gs p l not e = not (there gs p l ∙ ap (λ (x : Given). Some x) e)

pub returns-in_err-prepare-clause-goes : goal.returns-in_err-prepare-clause-goes
returns-in_err-prepare-clause-goes g c = goes_any g.P.Planner.meets c.args.given.now c.args.board.now c.prepare.new.board (c.prepare.ensures.goes c.args.given.now)

pub returns-in_err-claiming-clause-goes : goal.returns-in_err-claiming-clause-goes
returns-in_err-claiming-clause-goes g c = goes_any g.P.Planner.meets c.args.given.now c.args.board.now c.prepare.new.board (c.prepare.ensures.goes c.args.given.now)

pub returns-in_err-delivering-clause-goes : goal.returns-in_err-delivering-clause-goes
returns-in_err-delivering-clause-goes g c = goes_any g.P.Planner.meets c.args.given.now c.args.board.now c.prepare.new.board (c.prepare.ensures.goes c.args.given.now)

pub returns-in_err-releasing-clause-goes : goal.returns-in_err-releasing-clause-goes
returns-in_err-releasing-clause-goes g c = goes_any g.P.Planner.meets c.args.given.now c.args.board.now c.prepare.new.board (c.prepare.ensures.goes c.args.given.now)

pub returns-in_err-plan-clause-goes : goal.returns-in_err-plan-clause-goes
returns-in_err-plan-clause-goes g c = goes_any g.P.Planner.meets c.args.given.now c.args.board.now c.prepare.new.board (c.prepare.ensures.goes c.args.given.now)

pub region-requires-clause-shown : goal.region-requires-clause-shown
region-requires-clause-shown g c = (
  c.args.p,
  c.in_ok-prepare.ensures.shown,
  is_served c.prepare.new.board c.args.p c.args.given.now (here c.args.given.now c.args.p) c.prepare.new.look
      (outcomes_same c.args.board.now c.prepare.new.board c.args.given.now (c.prepare.ensures.goes c.args.given.now) c.requires.outcomes) c.in_ok-prepare.ensures.shown
      (there c.args.given.now c.args.p c.requires.within) (unsettled c.args.given.now c.args.p c.requires.within c.requires.unsettled),
)

pub deliver-requires : goal.deliver-requires
deliver-requires g c =
    claim_deliverable g.P.Planner.meets c.args.given.now c.prepare.new.board c.claim.new.board c.args.p c.prepare.new.look c.in_ok-plan.plan c.claim.ensures.claimed.0 (here c.args.given.now c.args.p)
    c.in_ok-prepare.ensures.legal c.in_ok-prepare.ensures.shown c.in_ok-plan.ensures.product c.in_ok-plan.ensures.meets c.claim.ensures.claimed.1
    (outcomes_same c.args.board.now c.prepare.new.board c.args.given.now (c.prepare.ensures.goes c.args.given.now) c.requires.outcomes)
    (there c.args.given.now c.args.p c.requires.within) (unsettled c.args.given.now c.args.p c.requires.within c.requires.unsettled)

pub release-requires : goal.release-requires
release-requires g c =
    delivery_releasable g.P.Planner.meets c.args.given.now c.prepare.new.board c.claim.new.board c.args.p c.prepare.new.look c.in_ok-plan.plan c.claim.ensures.claimed.0 (here c.args.given.now c.args.p)
    c.in_ok-prepare.ensures.legal c.in_ok-prepare.ensures.shown c.in_ok-plan.ensures.product c.in_ok-plan.ensures.meets c.claim.ensures.claimed.1
    c.deliver.new.board c.deliver.ensures.delivered.0 (there c.args.given.now c.args.p c.requires.within) (unsettled c.args.given.now c.args.p c.requires.within c.requires.unsettled)
    c.deliver.ensures.delivered.1 c.deliver.ensures.delivered.2

pub returns-clause-goes : goal.returns-clause-goes
returns-clause-goes g c =
    (served_ended g.P.Planner.meets c.args.given.now c.args.board.now c.prepare.new.board c.claim.new.board c.deliver.new.board c.release.new.board c.args.p c.prepare.new.look c.in_ok-plan.plan c.claim.ensures.claimed.0 (here c.args.given.now c.args.p)
    c.deliver.ensures.delivered.0 c.in_ok-prepare.ensures.legal c.in_ok-prepare.ensures.shown c.in_ok-plan.ensures.product c.in_ok-plan.ensures.meets c.claim.ensures.claimed.1
    (there c.args.given.now c.args.p c.requires.within) (unsettled c.args.given.now c.args.p c.requires.within c.requires.unsettled)
    c.deliver.ensures.delivered.1 c.deliver.ensures.delivered.2 c.release.ensures.released (c.prepare.ensures.goes c.args.given.now)).goes

pub returns-clause-idle : goal.returns-clause-idle
returns-clause-idle g c =
    (served_ended g.P.Planner.meets c.args.given.now c.args.board.now c.prepare.new.board c.claim.new.board c.deliver.new.board c.release.new.board c.args.p c.prepare.new.look c.in_ok-plan.plan c.claim.ensures.claimed.0 (here c.args.given.now c.args.p)
    c.deliver.ensures.delivered.0 c.in_ok-prepare.ensures.legal c.in_ok-prepare.ensures.shown c.in_ok-plan.ensures.product c.in_ok-plan.ensures.meets c.claim.ensures.claimed.1
    (there c.args.given.now c.args.p c.requires.within) (unsettled c.args.given.now c.args.p c.requires.within c.requires.unsettled)
    c.deliver.ensures.delivered.1 c.deliver.ensures.delivered.2 c.release.ensures.released (c.prepare.ensures.goes c.args.given.now)).idle

pub returns-clause-done : goal.returns-clause-done
returns-clause-done g c =
    (served_ended g.P.Planner.meets c.args.given.now c.args.board.now c.prepare.new.board c.claim.new.board c.deliver.new.board c.release.new.board c.args.p c.prepare.new.look c.in_ok-plan.plan c.claim.ensures.claimed.0 (here c.args.given.now c.args.p)
    c.deliver.ensures.delivered.0 c.in_ok-prepare.ensures.legal c.in_ok-prepare.ensures.shown c.in_ok-plan.ensures.product c.in_ok-plan.ensures.meets c.claim.ensures.claimed.1
    (there c.args.given.now c.args.p c.requires.within) (unsettled c.args.given.now c.args.p c.requires.within c.requires.unsettled)
    c.deliver.ensures.delivered.1 c.deliver.ensures.delivered.2 c.release.ensures.released (c.prepare.ensures.goes c.args.given.now)).done
