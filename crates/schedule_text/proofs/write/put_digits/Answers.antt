use Rattle.std.proofs.Common.{◌-◌, ◌<◌, ℕ, List, suc, sym, subst, arith}
use Rattle.patch_base.specs.Texts.{digit}
use Rattle.schedule_text.specs.Text.{bit_in}
use Rattle.patch_base.specs.Passes.{Passes}
use Rattle.schedule_text.proofs.Pieces.{digits_more, digits_in}
use Rattle.patch_base.proofs.Passing.{passes_then, began_rest, on_err}
use Rattle.schedule_text.proofs.write.put_digits.Goals as goal

pub loop-b-preserved : goal.loop-b-preserved
loop-b-preserved g c =
    let (k, (at, passes)) = c.loop-b.invariant.passes in
    let low : 0 < c.loop-b.b = omega arith in
    let P : List ℕ → Type 0 = λ t. Passes (g.O.Sink.taken c.args.out.now) (g.O.Sink.taken c.put_bit.new.out) c.args.pen.now c.put_bit.new.pen t in
    record {
      counts = omega (arith, c.in_ok-put_bit.ensures.counts);
      passes = (suc k, (omega (arith, at), subst P (sym (digits_more (bit_in c.args.bits.now) c.loop-b.b k low)) (passes_then passes c.in_ok-put_bit.ensures.ok)));
      room = c.in_ok-put_bit.ensures.room;
      low = omega arith;
    }

pub returns-in_err-put_bit-clause-prefix : goal.returns-in_err-put_bit-clause-prefix
returns-in_err-put_bit-clause-prefix g c =
    let (k, (at, passes)) = c.loop-b.invariant.passes in
    let (rest, whole) = digits_in (bit_in c.args.bits.now) c.args.first c.args.size c.loop-b.b k (omega arith) at in
    on_err _ c.from_residual.result (began_rest _ (digit (bit_in c.args.bits.now (c.loop-b.b - 1))) rest _ passes whole c.in_err-put_bit.ensures.prefix)
