use Rattle.std.proofs.Common.{◌<◌, ◌/◌, ◌%◌, ◌^◌, ◌==◌, Bool, false, List, length, get_or, ap, sym, ◌∙◌, arith, zero-add}
use Rattle.std.specs.Prelude.{bit_and}
use Rattle.commute_order.specs.inside.Words.{bit_in_words}
use Rattle.commute_order.proofs.BitLists.{length_bits, bit_get, bit_read, read_at}
use Rattle.commute_order.proofs.bits.Bits.has.Goals as goal

pub index-word-requires : goal.index-word-requires
index-word-requires c = omega (arith, ap length c.self.view_is, length_bits c.self.inside.words.items 0 c.self.inside.len, c.self.inside.words.ok.0)

pub returns : goal.returns
returns c =
    let words = c.self.inside.words.items in
    let i = c.args.i in
    let within : i < c.self.inside.len = omega (arith, ap length c.self.view_is, length_bits words 0 c.self.inside.len) in
    let room : i / 64 < length words = omega arith in
    ap (λ w. bit_and (w / 2 ^ (i % 64)) 1 == 1) (read_at words (i / 64) c.index-word.result.now room c.index-word.ensures) ∙ bit_read words i
    ∙ ap (bit_in_words words) (sym (zero-add i)) ∙ sym (bit_get words 0 c.self.inside.len i false within) ∙ ap (λ (bs : List Bool). get_or bs i false) c.self.view_is
