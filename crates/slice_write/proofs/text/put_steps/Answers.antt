use Rattle.std.proofs.Common.{◌∙◌, ◌++◌, ◌∷◌, [], arith, ap, length, length-append}
use Rattle.std.specs.Prelude.{decimal}
use Rattle.slice_write.proofs.Words.{step_word, step_none}
use Rattle.slice_write.proofs.text.put_steps.Goals as goal
use Rattle.slice_write.proofs.text.put_steps.Goals.{then-steps-factory, else-steps-factory}

pub loop-factory-preserved : goal.loop-factory-preserved
loop-factory-preserved c = elim c.if-steps-factory.branch [
  | then-steps-factory w ↦ record {
    text = step_word c.args.pen.now c.loop-factory.pen c.if-steps-factory.pen c.args.steps.now c.loop-factory.factory w.if-steps-factory.true c.loop-factory.invariant.text (w.pen-is ∙ w.put_decimal.ensures.text ∙ ap (λ l. l ++ decimal c.loop-factory.factory) w.put_byte.ensures);
    few = omega (arith, ap length w.pen-is, w.put_decimal.ensures.few, ap length w.put_byte.ensures, length-append c.loop-factory.pen (32 ∷ []), c.loop-factory.invariant.few);
  }
  | else-steps-factory w ↦ record {
    text = step_none c.args.pen.now c.loop-factory.pen c.if-steps-factory.pen c.args.steps.now c.loop-factory.factory w.if-steps-factory.false c.loop-factory.invariant.text w.pen-is;
    few = omega (arith, ap length w.pen-is, c.loop-factory.invariant.few);
  }
]
