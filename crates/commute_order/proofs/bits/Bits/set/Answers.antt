use Rattle.std.proofs.Common.{◌<◌, ◌*◌, ◌/◌, ◌%◌, ◌^◌, Bool, true, List, length, set, ap, ◌∙◌, arith}
use Rattle.std.specs.Int.RustNames.{bit_or}
use Rattle.commute_order.specs.inside.Words.{bits_from}
use Rattle.commute_order.proofs.BitLists.{length_bits, bits_set, read_at}
use Rattle.commute_order.proofs.bits.Bits.set.Goals as goal

pub index_mut-requires : goal.index_mut-requires
index_mut-requires c = omega (arith, ap length c.self.view_is, length_bits c.self.inside.words.items 0 c.self.inside.len, c.self.inside.words.ok.0)

pub returns : goal.returns
returns c =
    let words = c.self.inside.words.items in
    let i = c.args.i in
    let within : i < c.self.inside.len = omega (arith, ap length c.self.view_is, length_bits words 0 c.self.inside.len) in
    let room : i / 64 < length words = omega arith in
    ap (λ w. bits_from (set words (i / 64) (bit_or w (1 * 2 ^ (i % 64) % 2 ^ 64))) 0 c.self.inside.len) (read_at words (i / 64) c.index_mut.result.now room c.index_mut.ensures.value)
    ∙ bits_set words c.self.inside.len i within c.self.invariant.all ∙ ap (λ (bs : List Bool). set bs i true) c.self.view_is
