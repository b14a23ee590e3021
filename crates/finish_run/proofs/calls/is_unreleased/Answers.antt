-- A claimed product that is done was delivered.
use Rattle.std.proofs.Common.{◌≤◌, length, arith, sym}
use Rattle.std.proofs.lemmas.Bool.{true≢false}
use Rattle.std.proofs.lemmas.Option.{slice_get_within}
use Rattle.board_core.specs.Position.{past}
use Rattle.finish_run.proofs.Past.{claimed_product, delivered_is, unreleased_by_places}
use Rattle.finish_run.proofs.calls.is_unreleased.Goals as goal

pub returns-in-None-clause-unreleased : goal.returns-in-None-clause-unreleased
returns-in-None-clause-unreleased c = (
  λ f. absurd (true≢false (sym f)),
  λ x.
      let legal = c.history.ensures.legal.legal in
      let h = past c.args.board.now in
      let s = claimed_product c.args.board.now.job h c.args.p legal (delivered_is c.args.board.now.job h c.args.p legal x.0).0 in
      let l = slice_get_within c.args.board.now.job.products c.args.p s.0 s.1 in
      let none : length c.args.board.now.job.products ≤ c.args.p = c.in-None.ensures in
      absurd (omega (arith, l, none)),
)

pub returns-in-Some-clause-unreleased : goal.returns-in-Some-clause-unreleased
returns-in-Some-clause-unreleased c =
    unreleased_by_places c.args.board.now.job (past c.args.board.now) c.args.p c.in-Some.standing c.holds_on.result c.history.ensures.legal.legal c.in-Some.ensures.1 c.holds_on.ensures
