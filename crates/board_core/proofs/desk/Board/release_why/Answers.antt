use Rattle.std.proofs.Common.{◌≡◌, Option, ap₂, sym, ◌∙◌, subst}
use Rattle.std.specs.Option.{MatchOption}
use Rattle.board_core.specs.declared.board.ReleaseWhy.{ReleaseWhy}
use Rattle.board_core.specs.declared.Entry.TheVariants.{Release}
use Rattle.board_core.specs.Legal.{Allowed}
use Rattle.board_core.specs.Position.{past}
use Rattle.board_core.specs.Books.{standing_of}
use Rattle.board_core.specs.Causes.{ReleaseRefusedBecause}
use Rattle.board_core.specs.inside.Judging.{why_not_released}
use Rattle.board_core.proofs.Boards.{standing_is}
use Rattle.board_core.proofs.Releasing.{release_judged}
use Rattle.board_core.proofs.desk.Board.release_why.Goals as goal

pub returns : goal.returns
returns c =
    let k = c.in-Some.ensures.kind in
    let st = standing_is _ _ _ _ c.args.self.now c.self.view_is c.self.invariant c.args.p k.0 c.standing.result k.1 c.standing.ensures in
    let e : c.why_not_released.result ≡ why_not_released k.0.kind (standing_of (past c.args.self.now) c.args.p) = c.why_not_released.ensures ∙ ap₂ why_not_released k.2 st in
    subst (λ (o : Option ReleaseWhy). MatchOption o (Allowed c.args.self.now.job (past c.args.self.now) (Release c.args.p)) (λ why. ReleaseRefusedBecause why c.args.self.now c.args.p)) (sym e)
    (release_judged c.args.self.now c.args.p k.0 c.in-Some.ensures.legal.legal k.1)
