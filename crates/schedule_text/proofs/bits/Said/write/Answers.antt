use Rattle.std.proofs.Common.{◌≡◌, ◌<◌, length, get_or, false, sym, ◌∙◌, ap, arith}
use Rattle.std.specs.Prelude.{None, Some, slice_get, unwrap_or, if◌then◌else◌}
use Rattle.pauli_product.specs.Corrections.{xor}
use Rattle.source_model.specs.Bits.{writes}
use Rattle.source_model.specs.Statics.{kinds_of}
use Rattle.schedule_text.specs.inside.Bits.{turned_round}
use Rattle.schedule_text.proofs.Hearing.{turned_at}
use Rattle.schedule_text.proofs.LastWritten.{behind_next, written_at, past_table, writes_nothing, kind_at}
use Rattle.schedule_text.proofs.bits.Said.write.Goals as goal
use Rattle.schedule_text.proofs.bits.Said.write.Goals.{in-Measure+then-bit-bits, in-Measure+else-bit-bits, in_default}

pub loop-p-preserved : goal.loop-p-preserved
loop-p-preserved c =
    let products = c.args.products.now in
    let s = c.index-products-p.result in
    let p = c.loop-p.p in
    let old = c.loop-p.bits in
    let new = c.match-product.bits in
    let signs = c.args.self.now.signs.items in
    let raws = c.args.self.now.raws.items in
    let outcomes = turned_round signs raws in
    let low : p < length products = omega (arith, c.loop-p-test.true) in
    let kind_is : slice_get (kinds_of products) p ≡ Some s.kind = kind_at products p s low c.index-products-p.is in
    let other = xor (unwrap_or (get_or raws p None) false) (unwrap_or (get_or signs p None) false) in
    let turned : slice_get outcomes p ≡ Some other = turned_at signs raws p (omega (arith, low, c.requires.signs)) (omega (arith, low, c.requires.raws)) in
    elim c.match-product.branch [
      | in-Measure+then-bit-bits w ↦
          let o = w.outcome.result in
          let q = w.in-Measure.bit in
          record {
            rest = λ b small.
                behind_next (kinds_of products) outcomes p s.kind o (get_or old b false) (get_or new b false) b kind_is w.outcome.ensures
                (ap (λ bs. get_or bs b false) w.bits-is ∙ (written_at old q b o w.if-bit-bits.true ∙ sym (ap (λ k. if writes k b then o else get_or old b false) w.in-Measure.is)))
                ∙ c.loop-p.invariant.rest b (omega (arith, small));
          }
      | in-Measure+else-bit-bits w ↦
          let q = w.in-Measure.bit in
          record {
            rest = λ b small.
                let within : b < length old = omega (arith, small) in
                behind_next (kinds_of products) outcomes p s.kind other (get_or old b false) (get_or new b false) b kind_is turned
                (ap (λ bs. get_or bs b false) w.bits-is ∙ (past_table q b other (get_or old b false) (length old) within w.if-bit-bits.false ∙ sym (ap (λ k. if writes k b then other else get_or old b false) w.in-Measure.is)))
                ∙ c.loop-p.invariant.rest b within;
          }
      | in_default w ↦
          record {
            rest = λ b small.
                behind_next (kinds_of products) outcomes p s.kind other (get_or old b false) (get_or new b false) b kind_is turned
                (ap (λ bs. get_or bs b false) w.bits-is ∙ writes_nothing s.kind b other (get_or old b false) w.in_default.not-Measure)
                ∙ c.loop-p.invariant.rest b (omega (arith, small));
          }
    ]
