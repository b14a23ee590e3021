-- What is no product isn't claimed.
use Rattle.std.proofs.Common.{◌≤◌, length, arith, sym}
use Rattle.std.proofs.lemmas.Bool.{true≢false}
use Rattle.std.proofs.lemmas.Option.{slice_get_within}
use Rattle.board_core.specs.Position.{past}
use Rattle.finish_run.proofs.Past.{claimed_product}
use Rattle.finish_run.proofs.calls.is_pending.Goals as goal

pub returns-in-None-clause-pending : goal.returns-in-None-clause-pending
returns-in-None-clause-pending c = (
  λ f. absurd (true≢false (sym f)),
  λ x.
      let s = claimed_product c.args.board.now.job (past c.args.board.now) c.args.p c.history.ensures.legal.legal x.0 in
      let l = slice_get_within c.args.board.now.job.products c.args.p s.0 s.1 in
      let none : length c.args.board.now.job.products ≤ c.args.p = c.in-None.ensures in
      absurd (omega (arith, l, none)),
)
