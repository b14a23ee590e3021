use Rattle.std.proofs.Common.{◌≡◌, ℕ, ◌+◌, ◌<◌, ◌≤◌, Bool, false, not, List, [], ◌∷◌, ◌++◌, length, get_or, ap, subst, ◌∙◌, arith, below_more, length-append}
use Rattle.std.proofs.lemmas.List.{get_or_append_left, get_or_push}
use Rattle.pauli_product.specs.declared.Letter.TheVariants.{X, Z}
use Rattle.pauli_product.specs.Signed.{plus, commute}
use Rattle.commute_order.specs.inside.Columns.{IsColumns}
use Rattle.commute_order.specs.Sharing.{mark}
use Rattle.commute_order.proofs.clash_rows.Goals as goal

pub loop-p-init : goal.loop-p-init
loop-p-init c = record {
  size = ap length c.in_ok-rows.ensures.items;
  long = λ q h. absurd (omega arith);
  marks = λ q h j k. absurd (omega arith);
  room = omega (arith, c.in_ok-rows.ensures.capacity, c.in_ok-rows.ensures.len);
  qubits = (c.in_ok-x.ensures X c.args.products.now).size;
  all = c.qubit_count-qubits.ensures;
  x = c.in_ok-x.ensures X c.args.products.now;
  z = c.in_ok-z.ensures Z c.args.products.now;
}

pub loop-p-preserved : goal.loop-p-preserved
loop-p-preserved c =
    let ps = c.args.products.now in
    let p = c.loop-p.p in
    let m = c.loop-p.invariant in
    let old = c.loop-p.rows.items in
    let new = c.push_reserved.new.self.items in
    let row = c.in_ok-clash_row.field-0 in
    let pushed : new ≡ old ++ row ∷ [] = c.push_reserved.ensures.items in
    let xs = c.in_ok-clash_row.ensures.x in
    let zs = c.in_ok-clash_row.ensures.z in
    let before : (q : ℕ) → q < p → get_or new q [] ≡ get_or old q [] = λ q k. ap (λ (rows : List (List Bool)). get_or rows q []) pushed ∙ get_or_append_left old (row ∷ []) [] q (omega (arith, m.size)) in
    let last : get_or new p [] ≡ row = ap (λ (rows : List (List Bool)). get_or rows p []) pushed ∙ get_or_push old row [] p m.size in
    record {
      size = omega (arith, ap length pushed, length-append old (row ∷ []));
      long = below_more (λ q. length (get_or new q []) ≡ q + 1) p (λ q k. ap length (before q k) ∙ m.long q k) (ap length last ∙ c.in_ok-clash_row.ensures.size);
      marks =
          below_more (λ q. (j : ℕ) → j ≤ q → mark new q j ≡ not (commute (get_or ps j (plus [])) (get_or ps q (plus [])))) p
          (λ q k j l. ap (λ (r : List Bool). get_or r j false) (before q k) ∙ m.marks q k j l)
          (λ j l. ap (λ (r : List Bool). get_or r j false) last ∙ c.in_ok-clash_row.ensures.marks j l);
      room = omega (arith, c.push_reserved.ensures.len, c.push_reserved.ensures.capacity, m.room, m.size, c.loop-p-test.true);
      qubits = xs.size ∙ m.qubits;
      all = m.all;
      x = subst (λ k. IsColumns X ps (p + 1) k (length ps) c.clash_row.new.x.items) m.qubits xs;
      z = subst (λ k. IsColumns Z ps (p + 1) k (length ps) c.clash_row.new.z.items) m.qubits zs;
    }
