use Rattle.std.proofs.Common.{◌≡◌, ℕ, ◌+◌, ◌<◌, length, take, drop, ◌++◌, get_or, replicate, false, sym, ◌∙◌, ap, ap₂, arith}
use Rattle.std.specs.Prelude.{map}
use Rattle.std.specs.List.{range_with_len}
use Rattle.std.proofs.lemmas.List.{length-replicate, get_or-replicate}
use Rattle.source_model.specs.Bits.{bit_after_products, effective_outcomes}
use Rattle.source_model.specs.Circuits.{bits_in, kinds}
use Rattle.source_model.specs.SourceRun.{axes, bit_after}
use Rattle.source_model.specs.Statics.{kinds_of}
use Rattle.source_model.proofs.SameKinds.{statics_keep_kinds}
use Rattle.board_core.specs.History.{entries}
use Rattle.schedule_text.specs.inside.Bits.{turned_round}
use Rattle.schedule_text.proofs.LastWritten.{behind_agrees, are_values, take_first}
use Rattle.schedule_text.proofs.OneRun.{run_agrees}
use Rattle.schedule_text.proofs.history_bits.Goals as goal

pub returns-clause-size : goal.returns-clause-size
returns-clause-size c =
    let size = c.count-size.result in
    let bits = c.write.new.bits in
    let cleared : c.deref_mut.result.now ≡ replicate size false = c.deref_mut.ensures.value ∙ c.in_ok-bits.ensures.items_if_clones_equal (λ y e. e) in
    let count : length bits ≡ size = c.write.ensures.count ∙ (ap length cleared ∙ length-replicate size false) in
    ap (λ m. length (take m (bits ++ drop (length bits) c.in_ok-bits.bits.items))) (c.in_ok-bits.ensures.len ∙ sym count)
    ∙ (ap length (take_first bits (drop (length bits) c.in_ok-bits.bits.items))
    ∙ (count ∙ (c.count-size.ensures.value ∙ ap bits_in c.as_slice.ensures)))

pub returns-clause-bits : goal.returns-clause-bits
returns-clause-bits c = λ grid fails table right is.
    let items = c.args.circuit.now.items in
    let size = c.count-size.result in
    let bits = c.write.new.bits in
    let signs = c.in_ok-said.said.signs.items in
    let raws = c.in_ok-said.said.raws.items in
    let outcomes = turned_round signs raws in
    let cleared : c.deref_mut.result.now ≡ replicate size false = c.deref_mut.ensures.value ∙ c.in_ok-bits.ensures.items_if_clones_equal (λ y e. e) in
    let count : length bits ≡ size = c.write.ensures.count ∙ (ap length cleared ∙ length-replicate size false) in
    let kept = ap kinds_of c.requires.products ∙ statics_keep_kinds items in
    let each : (k : ℕ) → k < length bits → get_or bits k false ≡ bit_after items table (0 + k) = λ k low.
    let start : k ≡ 0 + k = omega arith in
    c.write.ensures.each k (omega (arith, low, c.write.ensures.count))
    ∙ (ap₂ (λ v ks. bit_after_products v k ks outcomes) (ap (λ bs. get_or bs k false) cleared ∙ get_or-replicate size k false false (omega (arith, low, count))) kept
    ∙ (behind_agrees k false (kinds items) outcomes (effective_outcomes (axes items table) table) (run_agrees items grid fails table (entries c.args.history.now) (length c.args.products.now) signs raws k right is (ap length c.requires.products) c.in_ok-said.ensures.signs c.in_ok-said.ensures.raws)
    ∙ (sym (c.law_bits.ensures items table k right) ∙ ap (bit_after items table) start))) in
    ap (λ m. take m (bits ++ drop (length bits) c.in_ok-bits.bits.items)) (c.in_ok-bits.ensures.len ∙ sym count)
    ∙ (take_first bits (drop (length bits) c.in_ok-bits.bits.items)
    ∙ (are_values (bit_after items table) 0 bits each
    ∙ ap (λ m. map (bit_after items table) (range_with_len 0 m)) (count ∙ (c.count-size.ensures.value ∙ ap bits_in c.as_slice.ensures))))
