use Rattle.std.proofs.Common.{rules, [], None, Some, sym, ap, ◌∙◌, subst}
use Rattle.board_core.specs.Position.{Position}
use Rattle.grid_lock.specs.declared.replies.TryWaits.{TryWaits}
use Rattle.grid_lock.specs.Answers.{WaitsFor}
use Rattle.grid_lock.specs.inside.Hands.{board_of}
use Rattle.grid_lock.specs.inside.Plays.{Sat}
use Rattle.grid_lock.specs.Replies.{AnswersWaits, Finds}
use Rattle.grid_lock.specs.inside.Views.{freeing}
use Rattle.grid_lock.proofs.Hands.{finds}
use Rattle.grid_lock.proofs.grid.Grid.try_waits.Goals.{in-Some, in-None}
use Rattle.grid_lock.proofs.grid.Grid.try_waits.Goals as goal

pub returns-clause-told : goal.returns-clause-told
returns-clause-told c =
    let v = c.args.pass.now.view in
    let l = c.take_turn.new.seat.me in
    let n = c.give_back.new.seat.me in
    let b : Position = board_of l in
    let asked = c.waits_in_hand-waits.ensures in
    let freed = c.give_back.ensures.freed ∙ ap (λ (m : Sat). (freeing m.0, [])) asked.same in
    let found : (Answers : Position → Type 0) → Answers b → Finds v Answers n.0 =
    λ Answers answers. finds c.args.pass.now c.pass.inside.seat.table_id c.pass.inside.seat.me l n Answers c.pass.view_is (c.take_turn.ensures.won (search rules)) answers freed in
    let told : TryWaits → Type 0 = λ (a : TryWaits). AnswersWaits v c.args.p a n.0 in
    elim c.match-waits-2.branch [
      | in-Some w ↦ subst told (sym w.result-is) (found (λ x. WaitsFor x c.args.p (Some w.in-Some.on)) (rw w.in-Some.is at c.in-Ok.ensures.waits))
      | in-None w ↦ subst told (sym w.result-is) (found (λ x. WaitsFor x c.args.p None) (rw w.in-None.is at c.in-Ok.ensures.waits))
    ]
