use Rattle.std.proofs.Common.{◌≡◌, ◌+◌, ◌*◌, ◌++◌, sym, ◌∙◌, ap, arith, refl}
use Rattle.rotation_list.specs.Generated.{draw, operation, operations}
use Rattle.rotation_list.proofs.Drawing.{draw_first, draw_next, operations_first, operations_more, items_whole}
use Rattle.rotation_list.proofs.jobs.generate_items.Goals as goal

pub loop-k-init : goal.loop-k-init
loop-k-init c = record {
  items = c.new-items.ensures.items ∙ sym (operations_first c.args.n);
  last = c.from-last.ensures ∙ sym (draw_first c.args.n);
  small = omega (arith, c.from-last.ensures);
}

pub loop-k-preserved : goal.loop-k-preserved
loop-k-preserved c =
    let n = c.args.n in
    let k = c.loop-k._k in
    let a : c.next_number-a.result ≡ draw n (3 * k + 1) = draw_next n (3 * k) (3 * k + 1) _ _ c.loop-k.invariant.last c.next_number-a.ensures.value refl in
    let b : c.next_number-b.result ≡ draw n (3 * k + 2) = draw_next n (3 * k + 1) (3 * k + 2) _ _ a c.next_number-b.ensures.value (omega arith) in
    let d : c.next_number-c.result ≡ draw n (3 * k + 3) = draw_next n (3 * k + 2) (3 * k + 3) _ _ b c.next_number-c.ensures.value (omega arith) in
    record {
      items = c.in_ok-push_operation.ensures ∙ ap (λ is. is ++ operation c.next_number-a.result c.next_number-b.result c.next_number-c.result) c.loop-k.invariant.items ∙ operations_more n k _ _ _ a b d;
      last = d ∙ ap (draw n) (omega arith);
      small = omega (arith, c.next_number-c.ensures.small);
    }

pub returns-clause-items : goal.returns-clause-items
returns-clause-items c = items_whole c.args.n _ _ (c.loop-k.invariant.items ∙ ap (operations c.args.n) (let e : c.loop-k._k ≡ c.args.n = omega arith in e)) c.in_ok-push_measurements.ensures
