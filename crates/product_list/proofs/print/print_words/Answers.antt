use Rattle.std.proofs.Common.{◌-◌, ◌++◌, ap, ap₂, sym, ◌∙◌}
use Rattle.std.proofs.lemmas.Result.{on_ok_weaker}
use Rattle.patch_base.specs.Texts.{spaced}
use Rattle.product_list.proofs.Printing.{words_rotation, words_measure, words_settle}
use Rattle.product_list.proofs.print.print_words.Goals as goal

pub returns-in-Rotation : goal.returns-in-Rotation
returns-in-Rotation c = on_ok_weaker c.print_axis.result (λ e. e ∙ ap (λ ws. c.args.into.now.items ++ spaced ws) (sym (words_rotation c.args.registers.now c.args.product.now.axis c.args.product.now.kind c.in-Rotation.is))) c.print_axis.ensures

pub returns-in-Measure : goal.returns-in-Measure
returns-in-Measure c = on_ok_weaker c.print_measured.result (λ e. e ∙ ap (λ ws. c.args.into.now.items ++ spaced ws) (sym (words_measure c.args.registers.now c.args.product.now.axis c.args.product.now.kind _ c.in-Measure.is))) c.print_measured.ensures

pub returns-in-Settle : goal.returns-in-Settle
returns-in-Settle c = on_ok_weaker c.print_settled.result (λ e. e ∙ ap (λ ws. c.args.into.now.items ++ spaced ws) (sym (words_settle c.args.registers.now c.args.product.now.axis c.args.product.now.kind _ _ _ _ _ c.in-Settle.is (c.saturating_sub-hidden.ensures ∙ ap₂ (λ a b. a - b) c.from.ensures c.requires) c.register_of-register.ensures))) c.print_settled.ensures
