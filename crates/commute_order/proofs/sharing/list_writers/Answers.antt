use Rattle.std.proofs.Common.{◌≡◌, ◌+◌, ◌<◌, length, get_or, sym, ap, subst, ◌∙◌}
use Rattle.std.proofs.lemmas.List.{get_or_default}
use Rattle.commute_order.specs.declared.Uses.{Uses}
use Rattle.commute_order.specs.inside.Sharing.{ListsWriters}
use Rattle.commute_order.proofs.WriterLists.{with_writer, without_writer}
use Rattle.commute_order.proofs.SharingLaws.{no_uses}
use Rattle.commute_order.proofs.sharing.list_writers.Goals as goal
use Rattle.commute_order.proofs.sharing.list_writers.Goals.{in-Some+in_ok-push, in_default}

pub loop-p-preserved : goal.loop-p-preserved
loop-p-preserved c =
    let us = c.args.uses.now in
    let p = c.loop-p.p in
    let ws = c.loop-p.writers.items in
    let inside : p < length us = c.loop-p-test.true in
    let own : (d : Uses) → (get_or us p d).write ≡ (get_or us p no_uses).write = λ d. ap (λ (u : Uses). u.write) (get_or_default us p d no_uses inside) in
    elim c.match-own.branch [
      | in-Some+in_ok-push w ↦
          subst (ListsWriters us (p + 1)) (sym (ap (λ v. v.items) w.writers-is ∙ w.in_ok-push.ensures.items))
          (with_writer us p w.in-Some.bit ws c.loop-p.invariant inside (λ d. own d ∙ w.in-Some.is))
      | in_default w ↦
          subst (ListsWriters us (p + 1)) (sym (ap (λ v. v.items) w.writers-is))
          (without_writer us p ws c.loop-p.invariant (λ d. own d ∙ w.in_default.is))
    ]
