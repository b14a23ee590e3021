use Rattle.std.proofs.Common.{sym}
use Rattle.product_list.proofs.Wording.{product_none, product_other, product_unended, product_some}
use Rattle.product_list.proofs.line.read_product.Goals as goal

pub returns-in_err-axis-clause-none : goal.returns-in_err-axis-clause-none
returns-in_err-axis-clause-none c = rw c.from_residual.ensures (product_none c.args.form c.args.words.now c.in_err-axis.ensures.end.0)

pub returns-then-not-is_axis-clause-none : goal.returns-then-not-is_axis-clause-none
returns-then-not-is_axis-clause-none c = product_other c.args.form c.args.words.now _ _ c.in_ok-axis.ensures.word (sym c.if-not-is_axis.ensures)

pub returns-in_err-ending-clause-none : goal.returns-in_err-ending-clause-none
returns-in_err-ending-clause-none c = rw c.from_residual-in_err-ending.ensures (product_unended c.args.form c.args.words.now _ _ c.in_ok-axis.ensures.word (sym c.if-not-is_axis.ensures) c.in_err-ending.ensures.none)

pub returns-clause-some : goal.returns-clause-some
returns-clause-some c = product_some c.args.form c.args.words.now _ _ _ c.in_ok-axis.ensures.word (sym c.if-not-is_axis.ensures) c.in_ok-ending.ensures.some
