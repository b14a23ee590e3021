use Rattle.std.proofs.Common.{[], ◌∷◌, ◌++◌, Ok, ap, sym, ◌∙◌}
use Rattle.std.proofs.lemmas.Result.{err_from_is_err_and}
use Rattle.source_model.specs.declared.Circuit.{Circuit}
use Rattle.product_list.specs.inside.Lines.{ending_said}
use Rattle.product_list.specs.ListText.{at_line, item_for, hidden_after}
use Rattle.product_list.proofs.Ruling.{at_ok, product_fails, product_put}
use Rattle.product_list.proofs.draft.Draft.put_product.Goals as goal

pub returns-in_err-item : goal.returns-in_err-item
returns-in_err-item c =
    let p = err_from_is_err_and c.from_residual.result c.from_residual.ensures.1 in
    rw (p.1, p.2) (product_fails c.args.number c.args.self.now c.args.axis c.args.ending c.in_err-item.field-0.0 c.in_err-item.ensures)

pub returns : goal.returns
returns c =
    let i = at_ok c.args.number (item_for c.args.self.now c.args.axis (ending_said c.args.ending)) c.in_ok-item.item c.in_ok-item.ensures in
    let items = c.in_ok-push.ensures.items ∙ ap (λ (d : Circuit). d.items ++ c.in_ok-item.item ∷ []) c.self.view_is in
    let hidden = c.hidden_after_line-self-inside.ensures.value ∙ ap (λ (d : Circuit). hidden_after d.hidden (ending_said c.args.ending)) c.self.view_is in
    ap (at_line c.args.number) (product_put c.args.self.now c.args.axis c.args.ending c.in_ok-item.item c.push.new.self.items c.hidden_after_line-self-inside.result i items hidden)
    ∙ ap (λ (d : Circuit). Ok (record d { items = c.push.new.self.items; hidden = c.hidden_after_line-self-inside.result })) (sym c.self.view_is)
