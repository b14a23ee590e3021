use Rattle.std.proofs.Common.{ap, ◌∙◌}
use Rattle.std.proofs.lemmas.Option.{slice_get_within}
use Rattle.source_model.specs.declared.Static.{Static}
use Rattle.board_core.specs.Position.{past}
use Rattle.board_core.proofs.Boards.{kept_at, standing_is}
use Rattle.board_core.proofs.Claiming.{one_product, unclaimed_here}
use Rattle.board_core.proofs.desk.Board.begin.Goals as goal

pub returns-in-Some-waits_on-clause-begun : goal.returns-in-Some-waits_on-clause-begun
returns-in-Some-waits_on-clause-begun c =
    let s = c.in-Some.ensures.kind in
    let st = standing_is _ _ _ _ c.args.self.now c.self.view_is c.self.invariant c.args.plan.now.number s.0 c.standing.result s.1 c.standing.ensures in
    let k = kept_at _ _ _ _ c.args.self.now c.self.view_is c.self.invariant in (
      unclaimed_here c.args.self.now c.args.plan.now s.0 c.in-Some.kind c.standing.result s.1 s.2 (c.takes_region.ensures.0 c.if-not-takes_region.false) st c.in_default-claim.is,
      c.in-Some-waits_on.ensures c.args.self.now.job (past c.args.self.now) k (slice_get_within c.args.self.now.job.products c.args.plan.now.number s.0 s.1),
    )

pub returns-clause-begun : goal.returns-clause-begun
returns-clause-begun c =
    let s = c.in-Some.ensures.kind in
    let st = standing_is _ _ _ _ c.args.self.now c.self.view_is c.self.invariant c.args.plan.now.number s.0 c.standing.result s.1 c.standing.ensures in
    let k = kept_at _ _ _ _ c.args.self.now c.self.view_is c.self.invariant in (
      record {
        before = unclaimed_here c.args.self.now c.args.plan.now s.0 c.in-Some.kind c.standing.result s.1 s.2 (c.takes_region.ensures.0 c.if-not-takes_region.false) st c.in_default-claim.is;
        waits = c.in_default-waits_on.ensures c.args.self.now.job (past c.args.self.now) k (slice_get_within c.args.self.now.job.products c.args.plan.now.number s.0 s.1);
      },
      λ t e. s.2 ∙ ap (λ (x : Static). x.kind) (one_product c.args.self.now c.args.plan.now.number s.0 t s.1 e),
    )
