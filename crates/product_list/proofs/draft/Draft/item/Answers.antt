use Rattle.std.proofs.Common.{◌≡◌, List, ap, sym, ◌∙◌, arith}
use Rattle.source_model.specs.declared.Circuit.{Circuit}
use Rattle.source_model.specs.declared.Register.{Register}
use Rattle.source_model.specs.Circuits.{bits_in}
use Rattle.product_list.specs.ListText.{at_line, named}
use Rattle.product_list.proofs.Ruling.{named_within, item_rotation, item_hidden, item_unnamed, item_past, item_measured, item_unsettled, item_settled, item_unreset, item_reset}
use Rattle.product_list.proofs.draft.Draft.item.Goals as goal

registers_of : Circuit → List Register
registers_of d = d.registers

pub returns-in_default : goal.returns-in_default
unfolding registers_of
returns-in_default c =
    rw c.at.ensures (ap (at_line c.args.number) (item_unnamed c.args.self.now c.args.axis c.args.ending _ (c.deref.ensures.value ∙ ap registers_of c.self.view_is) _ _ c.in-Measurement.is c.in_default.ensures.none))

pub returns-then-index-register : goal.returns-then-index-register
unfolding registers_of
returns-then-index-register c =
    rw c.at-then-index-register.ensures (ap (at_line c.args.number) (item_past c.args.self.now c.args.axis c.args.ending _ (c.deref.ensures.value ∙ ap registers_of c.self.view_is) _ _ _ c.in-Measurement.is c.in-Some.ensures.some c.if-index-register.true))

pub overflow_add-result : goal.overflow_add-result
overflow_add-result c =
    let w = named_within c.self.inside.bits c.self.inside.registers.items c.in-Measurement.name.now c.in-Some.register.now c.self.invariant.within (ap (λ rs. named rs c.in-Measurement.name.now) (sym c.deref.ensures.value) ∙ c.in-Some.ensures.some) in
    let b = c.self.invariant.few_bits in
    let l = c.if-index-register.false in
    omega arith

pub returns-in_default-find_register : goal.returns-in_default-find_register
unfolding registers_of
returns-in_default-find_register c =
    rw c.at-in_default-find_register.ensures (ap (at_line c.args.number) (item_unsettled c.args.self.now c.args.axis c.args.ending _ (c.deref-in-Settled.ensures.value ∙ ap registers_of c.self.view_is) _ _ c.in-Settled.is c.in_default-find_register.ensures.none))

pub returns-then-hidden-self : goal.returns-then-hidden-self
returns-then-hidden-self c =
    rw c.at-then-hidden-self.ensures (ap (at_line c.args.number) (item_unreset c.args.self.now c.args.axis c.args.ending _ c.in-Reset.is (let e : c.self.inside.hidden ≡ c.args.self.now.hidden = ap (λ (d : Circuit). d.hidden) c.self.view_is in omega (arith, c.if-hidden-self.true))))

pub returns-in-Rotation : goal.returns-in-Rotation
returns-in-Rotation c = ap (at_line c.args.number) (item_rotation c.args.self.now c.args.axis c.args.ending c.in-Rotation.is)

pub returns-else-index-register : goal.returns-else-index-register
unfolding registers_of
returns-else-index-register c =
    ap (at_line c.args.number) (item_measured c.args.self.now c.args.axis c.args.ending _ (c.deref.ensures.value ∙ ap registers_of c.self.view_is) _ _ _ c.in-Measurement.is c.in-Some.ensures.some c.if-index-register.false)

pub returns-in-Hidden : goal.returns-in-Hidden
returns-in-Hidden c = ap (at_line c.args.number) (item_hidden c.args.self.now c.args.axis c.args.ending c.self.inside.bits c.self.inside.hidden c.in-Hidden.is (c.self.invariant.counted ∙ ap (λ (d : Circuit). bits_in d.registers) c.self.view_is) (ap (λ (d : Circuit). d.hidden) c.self.view_is))

pub returns-in-Some-find_register : goal.returns-in-Some-find_register
unfolding registers_of
returns-in-Some-find_register c =
    ap (at_line c.args.number) (item_settled c.args.self.now c.args.axis c.args.ending _ (c.deref-in-Settled.ensures.value ∙ ap registers_of c.self.view_is) _ _ _ c.in-Settled.is c.in-Some-find_register.ensures.some)

pub returns-else-hidden-self : goal.returns-else-hidden-self
returns-else-hidden-self c =
    ap (at_line c.args.number) (item_reset c.args.self.now c.args.axis c.args.ending _ c.self.inside.bits c.in-Reset.is (let e : c.self.inside.hidden ≡ c.args.self.now.hidden = ap (λ (d : Circuit). d.hidden) c.self.view_is in omega (arith, c.if-hidden-self.false)) (c.self.invariant.counted ∙ ap (λ (d : Circuit). bits_in d.registers) c.self.view_is))
