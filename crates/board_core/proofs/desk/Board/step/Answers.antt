use Rattle.std.proofs.Common.{Err, refl, ap, sym, ◌∙◌, subst}
use Rattle.board_core.specs.declared.Entry.TheVariants.{Step}
use Rattle.board_core.specs.Position.{Position, past, IsLegal, with_entry}
use Rattle.board_core.specs.inside.Kept.{Tables}
use Rattle.board_core.proofs.KeptLegal.{position, kept_legal}
use Rattle.board_core.proofs.Boards.{kept_at, room, place_at, went}
use Rattle.board_core.proofs.Stepping.{has_fewer, step_allowed, step_nowhere, step_full}
use Rattle.board_core.proofs.Accepted.{step_accepted}
use Rattle.board_core.specs.declared.board.BoardStepWhy.TheVariants as why
use Rattle.board_core.proofs.desk.Board.step.Goals as goal

pub step-requires : goal.step-requires
step-requires c = has_fewer _ _ _ c.self.invariant

pub push-place-requires : goal.push-place-requires
push-place-requires c = room _ _ _ _ c.args.self.now c.self.view_is c.self.invariant

pub returns-in-Err-NoFactory-clause-refused : goal.returns-in-Err-NoFactory-clause-refused
returns-in-Err-NoFactory-clause-refused c =
    let k = kept_at _ _ _ _ c.args.self.now c.self.view_is c.self.invariant in (
      ap (λ (t : Tables). position c.self.inside.products.items c.self.inside.layout t c.self.inside.history) c.in-Err-NoFactory.ensures.refused ∙ c.self.view_is,
      step_nowhere c.args.self.now.job (past c.args.self.now) _ c.args.f k c.in-Err-NoFactory.field-0 c.in-Err-NoFactory.field-0-is (c.in-Err-NoFactory.ensures.answer c.args.self.now.job (past c.args.self.now) k),
      refl,
    )

pub returns-in-Err-NoFactory-clause-legal : goal.returns-in-Err-NoFactory-clause-legal
returns-in-Err-NoFactory-clause-legal c =
    subst (λ (t : Tables). IsLegal (position c.self.inside.products.items c.self.inside.layout t c.self.inside.history)) (sym c.in-Err-NoFactory.ensures.refused) (kept_legal _ _ _ c.self.invariant)

pub returns-in-Err-Stocked-clause-refused : goal.returns-in-Err-Stocked-clause-refused
returns-in-Err-Stocked-clause-refused c =
    let k = kept_at _ _ _ _ c.args.self.now c.self.view_is c.self.invariant in (
      ap (λ (t : Tables). position c.self.inside.products.items c.self.inside.layout t c.self.inside.history) c.in-Err-Stocked.ensures.refused ∙ c.self.view_is,
      step_full c.args.self.now.job (past c.args.self.now) _ c.args.f k c.in-Err-Stocked.ready c.in-Err-Stocked.field-0 c.in-Err-Stocked.field-0-is (c.in-Err-Stocked.ensures.answer c.args.self.now.job (past c.args.self.now) k) (c.in-Err-Stocked.ensures.stocked c.in-Err-Stocked.ready (ap Err c.in-Err-Stocked.field-0-is)),
      refl,
    )

pub returns-in-Err-Stocked-clause-legal : goal.returns-in-Err-Stocked-clause-legal
returns-in-Err-Stocked-clause-legal c =
    subst (λ (t : Tables). IsLegal (position c.self.inside.products.items c.self.inside.layout t c.self.inside.history)) (sym c.in-Err-Stocked.ensures.refused) (kept_legal _ _ _ c.self.invariant)

pub invariant_of-self-in-Ok : goal.invariant_of-self-in-Ok
invariant_of-self-in-Ok c =
    let k = kept_at _ _ _ _ c.args.self.now c.self.view_is c.self.invariant in
    let a = step_allowed c.args.self.now.job (past c.args.self.now) _ c.args.f k c.in-Ok.stepped (c.in-Ok.ensures.answer c.args.self.now.job (past c.args.self.now) k) in
    (went _ _ _ _ c.args.self.now c.self.view_is c.self.invariant c.step.new.self c.push-place.new.self c.args.by c.push-place.result (Step c.args.f) a.0 c.push-place.ensures.place c.push-place.ensures.values (λ j h kept ok at. c.in-Ok.ensures.kept j h kept ok)).kept

pub returns-in-Ok-clause-accepted : goal.returns-in-Ok-clause-accepted
returns-in-Ok-clause-accepted c =
    let k = kept_at _ _ _ _ c.args.self.now c.self.view_is c.self.invariant in
    let a = step_allowed c.args.self.now.job (past c.args.self.now) _ c.args.f k c.in-Ok.stepped (c.in-Ok.ensures.answer c.args.self.now.job (past c.args.self.now) k) in
    let g = went _ _ _ _ c.args.self.now c.self.view_is c.self.invariant c.step.new.self c.push-place.new.self c.args.by c.push-place.result (Step c.args.f) a.0 c.push-place.ensures.place c.push-place.ensures.values (λ j h kept ok at. c.in-Ok.ensures.kept j h kept ok) in
    (a.0, place_at _ _ _ _ c.args.self.now c.self.view_is c.self.invariant c.push-place.result c.push-place.ensures.place, a.1, g.is ∙ ap (λ (b : Position). with_entry b c.args.by (Step c.args.f)) c.self.view_is)

pub returns-in-Ok-clause-legal : goal.returns-in-Ok-clause-legal
returns-in-Ok-clause-legal c =
    let k = kept_at _ _ _ _ c.args.self.now c.self.view_is c.self.invariant in
    let a = step_allowed c.args.self.now.job (past c.args.self.now) _ c.args.f k c.in-Ok.stepped (c.in-Ok.ensures.answer c.args.self.now.job (past c.args.self.now) k) in
    (went _ _ _ _ c.args.self.now c.self.view_is c.self.invariant c.step.new.self c.push-place.new.self c.args.by c.push-place.result (Step c.args.f) a.0 c.push-place.ensures.place c.push-place.ensures.values (λ j h kept ok at. c.in-Ok.ensures.kept j h kept ok)).legal

pub returns-in-Err-NoFactory-clause-complete : goal.returns-in-Err-NoFactory-clause-complete
returns-in-Err-NoFactory-clause-complete c a =
    let k = kept_at _ _ _ _ c.args.self.now c.self.view_is c.self.invariant in
    absurd (step_accepted c.args.self.now c.args.f _ why.NoFactory k.makers a (step_nowhere c.args.self.now.job (past c.args.self.now) _ c.args.f k c.in-Err-NoFactory.field-0 c.in-Err-NoFactory.field-0-is (c.in-Err-NoFactory.ensures.answer c.args.self.now.job (past c.args.self.now) k)))

pub returns-in-Err-Stocked-clause-complete : goal.returns-in-Err-Stocked-clause-complete
returns-in-Err-Stocked-clause-complete c a =
    let k = kept_at _ _ _ _ c.args.self.now c.self.view_is c.self.invariant in
    absurd (step_accepted c.args.self.now c.args.f _ (why.Stocked c.in-Err-Stocked.ready) k.makers a (step_full c.args.self.now.job (past c.args.self.now) _ c.args.f k c.in-Err-Stocked.ready c.in-Err-Stocked.field-0 c.in-Err-Stocked.field-0-is (c.in-Err-Stocked.ensures.answer c.args.self.now.job (past c.args.self.now) k) (c.in-Err-Stocked.ensures.stocked c.in-Err-Stocked.ready (ap Err c.in-Err-Stocked.field-0-is))))
