-- A rotation lacks a state where each count is 0.
use Rattle.std.proofs.Common.{◌≡◌, ℕ, List, IsTrue, ◌↔◌, All, subst}
use Rattle.finish_run.proofs.Stocked.{lacks}
use Rattle.finish_run.proofs.making.lacks_state.Goals as goal

pub returns-then-look : goal.returns-then-look
returns-then-look c =
    lacks c.args.look.now c.are_zero.result c.if-look.true (subst (λ (l : List ℕ). IsTrue c.are_zero.result ↔ All (λ n. n ≡ 0) l) c.ready_of-counts.ensures c.are_zero.ensures)
