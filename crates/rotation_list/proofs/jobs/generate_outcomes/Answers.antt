use Rattle.std.proofs.Common.{◌+◌, ◌++◌, List, ℕ, codes, drop, sym, ◌∙◌, ap, subst, arith}
use Rattle.source_model.specs.Circuits.{kinds}
use Rattle.source_model.specs.declared.Item.{Item}
use Rattle.rotation_list.specs.Generated.{outcome_lines}
use Rattle.rotation_list.proofs.Drawing.{next_item, Remains, remains_first, remains_product, remains_turn, remains_none, drop_past}
use Rattle.rotation_list.proofs.jobs.generate_outcomes.Goals as goal
use Rattle.rotation_list.proofs.jobs.generate_outcomes.Goals.{in-Some+in_ok-print_outcome, in_default}

pub loop-item-init : goal.loop-item-init
loop-item-init c = record {
  small = c.requires;
  few = omega arith;
  lines = (λ n d e. remains_first _ c.extend_from_slice.new.self.items n d c.args.last c.args.items.now e (ap (λ (xs : List ℕ). xs ++ outcome_lines n d 0 (kinds c.args.items.now)) (sym (c.in_ok-extend_from_slice.ensures.items ∙ ap (λ (xs : List ℕ). xs ++ codes "outcomes 1\n") c.new-text.ensures.items))));
}

pub loop-item-preserved : goal.loop-item-preserved
loop-item-preserved c =
    let items = c.args.items.now in
    let rest : List Item = drop (c.loop-item.item-index + 1) items in
    let next = next_item items c.loop-item.item-index c.item-item.result c.loop-item-test.true c.item-item.is in
    elim c.match-kind_of.branch [
      | in-Some+in_ok-print_outcome w ↦ record {
        small = omega (arith, w.drawn-is, w.next_number-drawn.ensures.small);
        few = omega (arith, w.product-is, c.loop-item.invariant.few);
        lines = (λ n d e.
            let W = codes "outcomes 1\n" ++ outcome_lines n d 0 (kinds items) in
            let A : List ℕ → Type 0 = λ t. Remains W t n c.match-kind_of.drawn c.match-kind_of.product rest in
            let B : ℕ → Type 0 = λ x. Remains W w.print_outcome.new.into.items n x c.match-kind_of.product rest in
            let C : ℕ → Type 0 = λ p. Remains W w.print_outcome.new.into.items n w.next_number-drawn.result p rest in
            subst A (ap (λ v. v.items) (sym w.text-is)) (subst B (sym w.drawn-is) (subst C (sym w.product-is)
            (remains_product W c.loop-item.text.items w.print_outcome.new.into.items n c.loop-item.drawn w.next_number-drawn.result c.loop-item.product _ c.item-item.result rest w.in-Some.kind (c.loop-item.invariant.lines n d e) next (sym c.kind_of.ensures ∙ w.in-Some.is) w.next_number-drawn.ensures.value w.in_ok-print_outcome.ensures))));
      }
      | in_default w ↦ record {
        small = omega (arith, w.drawn-is, c.loop-item.invariant.small);
        few = omega (arith, w.product-is, c.loop-item.invariant.few);
        lines = (λ n d e.
            let W = codes "outcomes 1\n" ++ outcome_lines n d 0 (kinds items) in
            let A : List ℕ → Type 0 = λ t. Remains W t n c.match-kind_of.drawn c.match-kind_of.product rest in
            let B : ℕ → Type 0 = λ x. Remains W c.loop-item.text.items n x c.match-kind_of.product rest in
            let C : ℕ → Type 0 = λ p. Remains W c.loop-item.text.items n c.loop-item.drawn p rest in
            subst A (ap (λ v. v.items) (sym w.text-is)) (subst B (sym w.drawn-is) (subst C (sym w.product-is)
            (remains_turn W c.loop-item.text.items n c.loop-item.drawn c.loop-item.product _ c.item-item.result rest (c.loop-item.invariant.lines n d e) next (sym c.kind_of.ensures ∙ w.in_default.is)))));
      }
    ]

pub returns : goal.returns
returns c = λ n d e.
    remains_none _ c.loop-item.text.items c.extend_from_slice-2.new.self.items n c.loop-item.drawn c.loop-item.product _ (c.loop-item.invariant.lines n d e) (drop_past c.args.items.now c.loop-item.item-index (omega arith)) c.in_ok-extend_from_slice-2.ensures.items
