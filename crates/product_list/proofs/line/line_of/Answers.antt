use Rattle.std.proofs.Common.{sym, ◌∙◌}
use Rattle.product_list.proofs.Wording.{line_none, line_unnamed, line_register, line_unformed, line_product}
use Rattle.product_list.proofs.line.line_of.Goals as goal

pub returns-in_err-key-clause-none : goal.returns-in_err-key-clause-none
returns-in_err-key-clause-none c = rw c.from_residual.ensures (line_none c.args.two _ (sym c.of-words.ensures ∙ c.in_err-key.ensures.end.0))

pub returns-in_err-name-clause-none : goal.returns-in_err-name-clause-none
returns-in_err-name-clause-none c = rw c.from_residual-in_err-name.ensures (line_unnamed c.args.two _ _ _ (sym c.of-words.ensures ∙ c.in_ok-key.ensures.word) (sym c.if-is_register_key.ensures) c.in_err-name.ensures.none)

pub returns-then-is_register_key-clause-some : goal.returns-then-is_register_key-clause-some
returns-then-is_register_key-clause-some c = line_register c.args.two _ _ _ _ _ (sym c.of-words.ensures ∙ c.in_ok-key.ensures.word) (sym c.if-is_register_key.ensures) c.in_ok-name.ensures.some

pub returns-in_err-form-clause-none : goal.returns-in_err-form-clause-none
returns-in_err-form-clause-none c = rw c.from_residual-in_err-form.ensures (line_unformed c.args.two _ _ _ (sym c.of-words.ensures ∙ c.in_ok-key.ensures.word) (sym c.if-is_register_key.ensures) (sym c.in_err-form.ensures))

pub returns-clause-some : goal.returns-clause-some
returns-clause-some c =
    rw (line_product c.args.two _ _ _ c.in_ok-form.form (sym c.of-words.ensures ∙ c.in_ok-key.ensures.word) (sym c.if-is_register_key.ensures) (sym c.in_ok-form.ensures)) c.read_product.ensures.some

pub returns-clause-none : goal.returns-clause-none
returns-clause-none c =
    rw (line_product c.args.two _ _ _ c.in_ok-form.form (sym c.of-words.ensures ∙ c.in_ok-key.ensures.word) (sym c.if-is_register_key.ensures) (sym c.in_ok-form.ensures)) c.read_product.ensures.none
