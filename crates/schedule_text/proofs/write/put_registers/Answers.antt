use Rattle.std.proofs.Common.{◌<◌, length, arith, refl}
use Rattle.std.proofs.lemmas.Option.{slice_get_read}
use Rattle.schedule_text.specs.Text.{bit_in}
use Rattle.schedule_text.specs.inside.Pens.{register_text}
use Rattle.patch_base.proofs.Passing.{on_err}
use Rattle.schedule_text.proofs.Pieces.{passes_more, began_more_of}
use Rattle.schedule_text.proofs.write.put_registers.Goals as goal

pub returns-in_err-put_register-clause-prefix : goal.returns-in_err-put_register-clause-prefix
returns-in_err-put_register-clause-prefix g c =
    let within : c.loop-register.register-index < length c.args.registers.now = omega arith in
    on_err _ c.from_residual.result (began_more_of (register_text (bit_in c.args.bits.now)) c.args.registers.now c.loop-register.register-index c.register-item.result _ (slice_get_read _ _ _ _ refl within c.register-item.is) c.loop-register.invariant.passes c.in_err-put_register.ensures.prefix)

pub loop-register-preserved : goal.loop-register-preserved
loop-register-preserved g c =
    let within : c.loop-register.register-index < length c.args.registers.now = omega arith in
    record {
      counts = omega (arith, c.in_ok-put_register.ensures.counts);
      passes = passes_more (register_text (bit_in c.args.bits.now)) c.args.registers.now c.loop-register.register-index c.register-item.result (slice_get_read _ _ _ _ refl within c.register-item.is) c.loop-register.invariant.passes c.in_ok-put_register.ensures.ok;
    }
