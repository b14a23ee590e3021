use Rattle.std.proofs.Common.{arith}
use Rattle.std.proofs.lemmas.Grind.{common_steps}
use Rattle.pauli_product.specs.Spelling.{letter_text}
use Rattle.schedule_text.proofs.Pieces.{byte_more}
use Rattle.schedule_text.proofs.write.put_axis.Goals as goal

pub loop-q-preserved : goal.loop-q-preserved
loop-q-preserved c = record {
  text = byte_more letter_text c.args.axis.now.letters c.loop-q.q _ _ c.put_byte-2.new.self c.loop-q.pen _ c.letter.ensures c.letter_byte.ensures c.put_byte-in-loop-q.ensures c.loop-q.invariant.text;
  few = grind (arith, common_steps);
}
