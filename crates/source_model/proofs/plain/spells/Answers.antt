use Rattle.std.proofs.Common.{◌≡◌, ℕ, false, ◌+◌, ◌-◌, ◌%◌, ◌/◌, ◌==◌, suc, slice_index_or, arith, ap, ◌∙◌}
use Rattle.pauli_product.specs.Bits.{number_of}
use Rattle.source_model.proofs.Numbers.{rest_spells}
use Rattle.source_model.proofs.plain.spells.Goals as goal

pub loop-i-preserved : goal.loop-i-preserved
loop-i-preserved c =
    let f = λ (b : ℕ). slice_index_or c.args.bits.now b false in
    let k = c.args.first + c.loop-i.i in
    let rest = c.loop-i.rest in
    let left = c.args.size - (c.loop-i.i + 1) in
    let bit : f k ≡ (rest % 2 == 1) = grind arith in
    let more : c.args.size - c.loop-i.i ≡ suc left = omega arith in
    let next : k + 1 ≡ c.args.first + (c.loop-i.i + 1) = omega arith in
    c.loop-i.invariant
    ∙ ap (λ n. number_of f k n == rest) more
    ∙ rest_spells f k left rest bit
    ∙ ap (λ j. number_of f j left == rest / 2) next
