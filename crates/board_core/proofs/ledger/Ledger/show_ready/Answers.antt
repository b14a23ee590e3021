use Rattle.std.proofs.Common.{ℕ, List, length, ap, sym, ◌∙◌, arith, subst}
use Rattle.magic_pool.specs.declared.Fail.{Fail}
use Rattle.magic_pool.specs.Recount.{ready_of}
use Rattle.board_core.specs.History.{steps, taken_states}
use Rattle.board_core.specs.inside.Kept.{Kept}
use Rattle.board_core.proofs.Noting.{counted}
use Rattle.board_core.proofs.ledger.Ledger.show_ready.Goals as goal

pub loop-f-preserved : goal.loop-f-preserved
loop-f-preserved c j h k f l =
    let here = subst (Kept j h) (sym c.self.view_is) k in
    counted c.loop-f.counts c.loop-f.f c.ready.result (λ (g : ℕ). length (ready_of j.fails (steps h) (taken_states h) g)) (omega arith)
    (c.ready.ensures.count (steps h) (taken_states h) here.pool ∙ ap (λ (x : List Fail). length (ready_of x (steps h) (taken_states h) c.loop-f.f)) here.fails) (λ g m. c.loop-f.invariant j h k g m) f l
