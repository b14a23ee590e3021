use Rattle.std.proofs.Common.{ap₂, ◌∙◌}
use Rattle.std.proofs.lemmas.Option.{slice_get_within}
use Rattle.source_model.specs.declared.Kind.{Kind}
use Rattle.board_core.specs.declared.board.Standing.{Standing}
use Rattle.board_core.specs.Position.{past}
use Rattle.board_core.specs.inside.Judging.{why_not_delivered}
use Rattle.board_core.proofs.Boards.{kept_at, standing_is, covers}
use Rattle.board_core.proofs.Judged.{refused_because, timely, deliverable, waiting}
use Rattle.board_core.proofs.desk.Board.deliver_why.Goals as goal

pub returns-in-Some-why_not_delivered : goal.returns-in-Some-why_not_delivered
returns-in-Some-why_not_delivered c =
    let s = c.in-Some.ensures.kind in
    let st = standing_is _ _ _ _ c.args.self.now c.self.view_is c.self.invariant c.args.p s.0 c.standing.result s.1 c.standing.ensures in
    refused_because c.args.self.now c.args.p s.0 c.args.given s.1 c.why_not_delivered.result c.in-Some-why_not_delivered.why
    (c.why_not_delivered.ensures ∙ ap₂ (λ (k : Kind) (x : Standing). why_not_delivered k x c.args.given) s.2 st) c.in-Some-why_not_delivered.is

pub waits_on-requires : goal.waits_on-requires
waits_on-requires c = let s = c.in-Some.ensures.kind in covers _ _ _ _ c.args.self.now c.self.view_is c.self.invariant c.args.p s.0 s.1

pub returns-in-Some-waits_on : goal.returns-in-Some-waits_on
returns-in-Some-waits_on c =
    let s = c.in-Some.ensures.kind in
    let st = standing_is _ _ _ _ c.args.self.now c.self.view_is c.self.invariant c.args.p s.0 c.standing.result s.1 c.standing.ensures in
    let t = timely c.args.self.now c.args.p s.0 c.args.given s.1 c.why_not_delivered.result (c.why_not_delivered.ensures ∙ ap₂ (λ (k : Kind) (x : Standing). why_not_delivered k x c.args.given) s.2 st) c.in_default-why_not_delivered.is in
    waiting c.args.self.now c.args.p s.0 c.args.given s.1 c.in-Some-waits_on.on t c.in-Settled.is (c.in-Some-waits_on.ensures c.args.self.now.job (past c.args.self.now) (kept_at _ _ _ _ c.args.self.now c.self.view_is c.self.invariant) (slice_get_within c.args.self.now.job.products c.args.p s.0 s.1))

pub returns-in_default-waits_on : goal.returns-in_default-waits_on
returns-in_default-waits_on c =
    let s = c.in-Some.ensures.kind in
    let st = standing_is _ _ _ _ c.args.self.now c.self.view_is c.self.invariant c.args.p s.0 c.standing.result s.1 c.standing.ensures in
    let t = timely c.args.self.now c.args.p s.0 c.args.given s.1 c.why_not_delivered.result (c.why_not_delivered.ensures ∙ ap₂ (λ (k : Kind) (x : Standing). why_not_delivered k x c.args.given) s.2 st) c.in_default-why_not_delivered.is in
    deliverable c.args.self.now c.args.p s.0 c.args.given s.1 t (λ e. c.in_default-waits_on.ensures c.args.self.now.job (past c.args.self.now) (kept_at _ _ _ _ c.args.self.now c.self.view_is c.self.invariant) (slice_get_within c.args.self.now.job.products c.args.p s.0 s.1))

pub returns-in_default-given : goal.returns-in_default-given
returns-in_default-given c =
    let s = c.in-Some.ensures.kind in
    let st = standing_is _ _ _ _ c.args.self.now c.self.view_is c.self.invariant c.args.p s.0 c.standing.result s.1 c.standing.ensures in
    let t = timely c.args.self.now c.args.p s.0 c.args.given s.1 c.why_not_delivered.result (c.why_not_delivered.ensures ∙ ap₂ (λ (k : Kind) (x : Standing). why_not_delivered k x c.args.given) s.2 st) c.in_default-why_not_delivered.is in
    deliverable c.args.self.now c.args.p s.0 c.args.given s.1 t (λ e. absurd (c.in_default-given.not-Settled e))
