use Rattle.std.proofs.Common.{refl}
use Rattle.schedule_text.specs.Text.{bits_text, bit_in}
use Rattle.patch_base.proofs.Passing.{grew_all, began_all, on_err, map_ok, map_err}
use Rattle.schedule_text.proofs.write_bits.Goals as goal

pub returns-in_err-put_bits-clause-prefix : goal.returns-in_err-put_bits-clause-prefix
returns-in_err-put_bits-clause-prefix g c = on_err _ c.from_residual.result (rw c.new-pen.ensures at c.in_err-put_bits.ensures.prefix)

pub returns-clause-all : goal.returns-clause-all
returns-clause-all g c = map_ok c.send.result (λ p. grew_all _ (bits_text c.args.circuit.now.registers (bit_in c.args.bits.now)) c.new-pen.ensures refl c.in_ok-put_bits.ensures.ok p) c.send.ensures.ok

pub returns-clause-prefix : goal.returns-clause-prefix
returns-clause-prefix g c = map_err c.send.result (λ p. began_all _ (bits_text c.args.circuit.now.registers (bit_in c.args.bits.now)) c.new-pen.ensures refl c.in_ok-put_bits.ensures.ok p) c.send.ensures.prefix
