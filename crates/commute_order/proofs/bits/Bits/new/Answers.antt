use Rattle.std.proofs.Common.{List, ap, ◌∙◌, ℕ}
use Rattle.commute_order.specs.inside.Words.{bits_from}
use Rattle.commute_order.proofs.BitLists.{bits_zero}
use Rattle.commute_order.proofs.bits.Bits.new.Goals as goal

pub returns : goal.returns
returns c = ap (λ (ws : List ℕ). bits_from ws 0 c.args.len) c.in_ok-zero_words.ensures ∙ bits_zero _ 0 c.args.len
