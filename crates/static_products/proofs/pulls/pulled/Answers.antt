use Rattle.std.proofs.Common.{◌+◌, List, drop, sym, ◌∙◌, ap, subst}
use Rattle.pauli_product.specs.Pulls.{pull}
use Rattle.frame_table.specs.Images.{Images}
use Rattle.source_model.specs.declared.Static.{Static}
use Rattle.source_model.specs.Statics.{statics}
use Rattle.static_products.proofs.Pulling.{SoFar, product_more, turn_more, next_item}
use Rattle.static_products.proofs.pulls.pulled.Goals as goal
use Rattle.static_products.proofs.pulls.pulled.Goals.{in-Some+in_ok-axis-in-Some+in_ok-push-in-Some, in-None}

pub loop-item-preserved : goal.loop-item-preserved
loop-item-preserved c =
    let items = c.args.items.now in
    let rest = drop (c.loop-item.item-index + 1) items in
    let next = next_item items c.loop-item.item-index c.item-item.result c.loop-item-test.true c.item-item.is in
    let F : Images → Type 0 = λ f. SoFar c.args.qubits (statics items) f c.match-kind_of.products.items rest in
    elim c.match-kind_of.branch [
      | in-Some+in_ok-axis-in-Some+in_ok-push-in-Some w ↦
          let V : List Static → Type 0 = λ ss. SoFar c.args.qubits (statics items) c.loop-item.frame ss rest in
          subst F (sym w.frame-is) (subst V (ap (λ v. v.items) (sym w.products-is))
          (product_more c.args.qubits (statics items) c.loop-item.frame c.loop-item.products.items w.push.new.self.items _ c.item-item.result rest w.in_ok-axis-in-Some.axis w.in-Some.kind c.loop-item.invariant next (sym c.kind_of.ensures ∙ w.in-Some.is) (λ n ts h. w.in_ok-axis-in-Some.ensures n ts h ∙ ap (pull ts) w.axis_of.ensures) w.in_ok-push-in-Some.ensures.items))
      | in-None w ↦
          let V : List Static → Type 0 = λ ss. SoFar c.args.qubits (statics items) w.turn.new.frame ss rest in
          subst F (sym w.frame-is) (subst V (ap (λ v. v.items) (sym w.products-is))
          (turn_more c.args.qubits (statics items) c.loop-item.frame w.turn.new.frame c.loop-item.products.items _ c.item-item.result rest c.loop-item.invariant next (sym c.kind_of.ensures ∙ w.in-None.is) w.turn.ensures))
    ]
