use Rattle.std.proofs.Common.{◌≡◌, List, ◌++◌, length, ap, sym, ◌∙◌, subst}
use Rattle.pauli_product.specs.Pulls.{Turn, quarter, half}
use Rattle.source_model.specs.declared.Item.{Item}
use Rattle.source_model.specs.declared.Item.TheVariants as item
use Rattle.source_model.specs.SourceRun.{axis_of}
use Rattle.static_products.specs.inside.Pulled.{Answers, turn_of}
use Rattle.static_products.proofs.Pulling.{answers_turn}
use Rattle.static_products.proofs.pulls.turn.Goals as goal

pub returns-in-Quarter : goal.returns-in-Quarter
returns-in-Quarter c = λ n turns h.
    let is : c.args.item.now ≡ item.Turn c.in-Turn.axis c.in-Turn.angle = c.in-Turn.is in
    let P : List Turn → Type 0 = λ ts. Answers n (turns ++ ts) c.advance.new.self in
    subst P (sym (ap turn_of (is ∙ ap (item.Turn c.in-Turn.axis) c.in-Quarter.is)))
    (answers_turn n turns c.in-Turn.axis quarter c.args.frame.now c.advance.new.self (sym (ap (λ (i : Item). length (axis_of i).letters) is) ∙ c.requires ∙ h.after.x.size) h (c.advance.ensures.corrected n h.corrections h.after))

pub returns-in-Half : goal.returns-in-Half
returns-in-Half c = λ n turns h.
    let is : c.args.item.now ≡ item.Turn c.in-Turn.axis c.in-Turn.angle = c.in-Turn.is in
    let P : List Turn → Type 0 = λ ts. Answers n (turns ++ ts) c.advance-in-Half.new.self in
    subst P (sym (ap turn_of (is ∙ ap (item.Turn c.in-Turn.axis) c.in-Half.is)))
    (answers_turn n turns c.in-Turn.axis half c.args.frame.now c.advance-in-Half.new.self (sym (ap (λ (i : Item). length (axis_of i).letters) is) ∙ c.requires ∙ h.after.x.size) h (c.advance-in-Half.ensures.corrected n h.corrections h.after))
