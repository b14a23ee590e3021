use Rattle.std.proofs.Common.{◌≡◌, ◌+◌, ◌*◌, ◌/◌, ◌%◌, ◌<◌, length, set, ap, ◌∙◌, arith}
use Rattle.pauli_product.specs.inside.Masks.{all_letters}
use Rattle.pauli_product.proofs.Masks.{set-all_letters}
use Rattle.pauli_product.proofs.put.Goals as goal

pub returns : goal.returns
returns c =
    let within : c.args.q / 64 < length c.args.words.now = omega (arith, c.requires) in
    let bit : c.args.q % 64 < 64 = omega arith in
    let at : 64 * (c.args.q / 64) + c.args.q % 64 ≡ c.args.q = omega arith in
    set-all_letters _ _ _ _ _ _ within bit c.with_letter.ensures ∙ ap (λ k. set (all_letters c.args.words.now) k c.args.letter) at
