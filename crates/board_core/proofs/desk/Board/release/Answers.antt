use Rattle.std.proofs.Common.{ℕ, ◌<◌, ap, sym, ◌∙◌, subst}
use Rattle.board_core.specs.declared.Entry.TheVariants.{Release}
use Rattle.board_core.specs.Position.{Position, past, with_entry}
use Rattle.board_core.proofs.Releasing.{release_within}
use Rattle.board_core.proofs.Boards.{kept_at, legal_at, room, place_at, went}
use Rattle.board_core.proofs.Accepted.{release_accepted}
use Rattle.board_core.proofs.desk.Board.release.Goals as goal

pub returns-in-Some-clause-legal : goal.returns-in-Some-clause-legal
returns-in-Some-clause-legal c = legal_at _ _ _ _ c.args.self.now c.self.view_is c.self.invariant

pub release-requires : goal.release-requires
release-requires c =
    let k = kept_at _ _ _ _ c.args.self.now c.self.view_is c.self.invariant in
    subst (λ (n : ℕ). c.args.p < n) (sym k.standings.0) (release_within c.args.self.now.job (past c.args.self.now) c.args.p k.legal c.in_default.ensures)

pub push-requires : goal.push-requires
push-requires c = room _ _ _ _ c.args.self.now c.self.view_is c.self.invariant

pub invariant_of-self : goal.invariant_of-self
invariant_of-self c = (went _ _ _ _ c.args.self.now c.self.view_is c.self.invariant c.release.new.self c.push.new.self c.args.by c.length-place.result (Release c.args.p) c.in_default.ensures c.length-place.ensures c.push.ensures.values c.release.ensures).kept

pub returns-clause-accepted : goal.returns-clause-accepted
returns-clause-accepted c =
    let g = went _ _ _ _ c.args.self.now c.self.view_is c.self.invariant c.release.new.self c.push.new.self c.args.by c.length-place.result (Release c.args.p) c.in_default.ensures c.length-place.ensures c.push.ensures.values c.release.ensures in
    (c.in_default.ensures, place_at _ _ _ _ c.args.self.now c.self.view_is c.self.invariant c.push.result c.push.ensures.place, g.is ∙ ap (λ (b : Position). with_entry b c.args.by (Release c.args.p)) c.self.view_is)

pub returns-clause-legal : goal.returns-clause-legal
returns-clause-legal c = (went _ _ _ _ c.args.self.now c.self.view_is c.self.invariant c.release.new.self c.push.new.self c.args.by c.length-place.result (Release c.args.p) c.in_default.ensures c.length-place.ensures c.push.ensures.values c.release.ensures).legal

pub returns-in-Some-clause-complete : goal.returns-in-Some-clause-complete
returns-in-Some-clause-complete c a = absurd (release_accepted c.args.self.now c.args.p c.in-Some.why (legal_at _ _ _ _ c.args.self.now c.self.view_is c.self.invariant) a c.in-Some.ensures)
