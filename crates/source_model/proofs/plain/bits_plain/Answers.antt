use Rattle.std.proofs.Common.{◌≡◌, ◌+◌, ◌≤◌, length, take, arith, ap, ◌∙◌}
use Rattle.source_model.specs.Circuits.{bits_in}
use Rattle.source_model.specs.SourceRun.{bit_after}
use Rattle.source_model.proofs.Truncating.{first_entries}
use Rattle.source_model.proofs.plain.bits_plain.Goals as goal

pub returns : goal.returns
returns c =
    let circuit = c.args.circuit.now in
    let bits = c.in_ok-played.played.bits.items in
    let n = bits_in circuit.registers in
    let few : n ≤ length bits = omega (arith, c.in_ok-played.ensures.count) in
    let count : c.register_bits.result ≡ n = c.register_bits.ensures.value ∙ ap bits_in c.as_slice.ensures in
    c.truncate.ensures.items
    ∙ ap (λ k. take k bits) count
    ∙ first_entries (bit_after circuit.items c.args.given.now) 0 n bits few (λ b. let first : b ≡ 0 + b = omega arith in c.in_ok-played.ensures.bits b ∙ ap (bit_after circuit.items c.args.given.now) first)
