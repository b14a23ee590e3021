use Rattle.std.proofs.Common.{◌≡◌, ◌||◌, Bool, List, length, ap, sym, subst, ◌∙◌, get_or, arith}
use Rattle.std.proofs.lemmas.List.{with_items_is}
use Rattle.commute_order.specs.Commuting.{IsOrder}
use Rattle.commute_order.specs.Sharing.{mark}
use Rattle.commute_order.specs.inside.Sharing.{shares_bit}
use Rattle.commute_order.proofs.SharingLaws.{no_uses, row_mark}
use Rattle.commute_order.proofs.Order.build.Goals as goal

pub returns : goal.returns
returns c =
    let ps = c.args.products.now in
    let us = c.args.uses.now in
    let rows = c.in_ok-rows.rows.items in
    let new = c.mark_sharing.new.rows in
    let value = c.deref_mut.ensures.value in
    let size : length new ≡ length rows = c.mark_sharing.auto.rows ∙ ap length value in
    let is = with_items_is c.in_ok-rows.rows new (size ∙ sym c.in_ok-rows.rows.ok.0) in
    subst (IsOrder ps us) (sym is)
    (record {
      size = size ∙ c.in_ok-rows.ensures.size;
      row = λ p j h k.
          c.in_ok-mark_sharing.ensures.marks p j no_uses k (omega (arith, c.requires.uses))
          ∙ ap (λ b. b || shares_bit (get_or us j no_uses) (get_or us p no_uses)) (ap (λ (r : List (List Bool)). mark r p j) value ∙ c.in_ok-rows.ensures.marks p j h k)
          ∙ row_mark ps us j p;
    })
