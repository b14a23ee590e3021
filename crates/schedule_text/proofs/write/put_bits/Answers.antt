use Rattle.std.proofs.Common.{◌++◌, List, ℕ, sym, subst, arith, length}
use Rattle.std.specs.Prelude.{All}
use Rattle.source_model.specs.declared.Register.{Register}
use Rattle.schedule_text.specs.Text.{bit_in}
use Rattle.patch_base.specs.Passes.{Passes}
use Rattle.schedule_text.specs.Pens.{IsWithin}
use Rattle.schedule_text.proofs.Pieces.{firsts_within, bits_parts}
use Rattle.patch_base.proofs.Passing.{map_ok, map_err}
use Rattle.patch_base.specs.Outside.{AppendsPrefix}
use Rattle.schedule_text.proofs.write.put_bits.Goals as goal

pub put_registers-requires : goal.put_registers-requires
put_registers-requires g c =
    let P : List Register → Type 0 = λ rs. All (IsWithin (length c.args.bits.now)) rs in
    subst P (sym c.as_slice.ensures) (firsts_within (length c.args.bits.now) 0 c.args.circuit.now.registers (omega (arith, c.requires.bits)) c.requires.circuit.firsts_run_on)

pub returns-clause-ok : goal.returns-clause-ok
returns-clause-ok g c =
    let P : List ℕ → Type 0 = λ t. Passes (g.O.Sink.taken c.args.out.now) (g.O.Sink.taken c.put_registers.new.out) c.args.pen.now c.put_registers.new.pen t in
    map_ok c.put_registers.result (λ p. subst P (bits_parts (bit_in c.args.bits.now) _ _ c.as_slice.ensures) p) c.put_registers.ensures.ok

pub returns-clause-prefix : goal.returns-clause-prefix
returns-clause-prefix g c =
    let P : List ℕ → Type 0 = λ t. AppendsPrefix (g.O.Sink.taken c.args.out.now) (g.O.Sink.taken c.put_registers.new.out) (c.args.pen.now ++ t) in
    map_err c.put_registers.result (λ p. subst P (bits_parts (bit_in c.args.bits.now) _ _ c.as_slice.ensures) p) c.put_registers.ensures.prefix
