use Rattle.std.proofs.Common.{◌==◌, ap, ◌∙◌, sym, w64}
use Rattle.std.proofs.lemmas.Nat.Bits.{bit_at_set_same, bit_at_set_other, bit_at_clear_same, bit_at_clear_other}
use Rattle.pauli_product.proofs.word.with_bit.Goals as goal

pub returns-then-set-clause-there : goal.returns-then-set-clause-there
returns-then-set-clause-there c = ap (λ b. b == 1) (bit_at_set_same w64 c.args.mask c.args.i c.requires) ∙ sym c.if-set.true

pub returns-then-set-clause-elsewhere : goal.returns-then-set-clause-elsewhere
returns-then-set-clause-elsewhere c k h ne = bit_at_set_other w64 c.args.mask c.args.i c.requires k ne

pub returns-else-set-clause-there : goal.returns-else-set-clause-there
returns-else-set-clause-there c = ap (λ b. b == 1) (bit_at_clear_same w64 c.args.mask c.args.i c.requires) ∙ sym c.if-set.false

pub returns-else-set-clause-elsewhere : goal.returns-else-set-clause-elsewhere
returns-else-set-clause-elsewhere c k h ne = bit_at_clear_other w64 c.args.mask c.args.i c.requires k h ne
