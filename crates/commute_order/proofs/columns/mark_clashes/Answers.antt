use Rattle.std.proofs.Common.{◌≡◌, ◌+◌, ◌<◌, false, [], length, get_or, refl, ◌∙◌, arith, take_all}
use Rattle.std.proofs.lemmas.List.{get_or_read}
use Rattle.std.proofs.lemmas.Option.{get_or_from_slice_get}
use Rattle.pauli_product.specs.declared.Letter.TheVariants.{I}
use Rattle.pauli_product.specs.Signed.{plus}
use Rattle.pauli_product.specs.Corrections.{xor}
use Rattle.commute_order.specs.inside.Columns.{clash_bit}
use Rattle.commute_order.proofs.ColumnLaws.{odd, odd_commute, next_mark}
use Rattle.commute_order.proofs.columns.mark_clashes.Goals as goal

pub loop-q-preserved : goal.loop-q-preserved
loop-q-preserved c =
    let q = c.loop-q.q in
    let letters = c.args.product.now.letters in
    let l = c.letter.result in
    let e = get_or_from_slice_get letters q l I c.letter.ensures in
    let inside : q < length letters = omega arith in
    let rx = get_or_read c.args.x.now q c.index-x-q.result (omega arith) c.index-x-q.is [] in
    let rz = get_or_read c.args.z.now q c.index-z-q.result (omega arith) c.index-z-q.is [] in
    record {
      size = c.flip_letter.ensures.size ∙ c.loop-q.invariant.size;
      marks = λ ps j cx cz long h.
          let before = c.loop-q.invariant.marks ps j cx cz long h in
          let step =
          c.flip_letter.ensures.bits j (omega (arith, c.loop-q.invariant.size))
          ∙ (λ i. xor (get_or c.loop-q.row j false) (clash_bit l (get_or (rx i) j false) (get_or (rz i) j false))) in
          next_mark ps (c.args.p + 1) (length letters) c.args.len c.args.x.now c.args.z.now letters l q j (get_or c.loop-q.row j false) (get_or c.flip_letter.new.row j false) cx cz refl long inside (omega arith) (omega arith) e before step;
    }

pub returns-clause-marks : goal.returns-clause-marks
returns-clause-marks c = λ ps j cx cz long h.
    let q = c.loop-q.q in
    let own = (get_or ps j (plus [])).letters in
    let letters = c.args.product.now.letters in
    let end : q ≡ length letters = omega arith in
    c.loop-q.invariant.marks ps j cx cz long h
    ∙ (λ i. odd (take_all q own (omega arith) i) (take_all q letters (omega arith) i))
    ∙ odd_commute (get_or ps j (plus [])) c.args.product.now
