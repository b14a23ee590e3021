use Rattle.std.proofs.Common.{◌≡◌, List, ◌++◌, length, get_or, subst, ap, sym, ◌∙◌, arith}
use Rattle.pauli_product.specs.Signed.{Signed}
use Rattle.pauli_product.specs.Pulls.{carry}
use Rattle.std.proofs.lemmas.List.{with_items_is}
use Rattle.frame_table.specs.Images.{After, turns_about}
use Rattle.frame_table.proofs.Corrected.{after_turned}
use Rattle.frame_table.proofs.Frame.correct.Goals as goal

pub returns-clause-corrected : goal.returns-clause-corrected
returns-clause-corrected c = λ n ts h.
    let was = subst (After n ts) (sym c.self.view_is) h in
    let us = turns_about c.args.axis.now c.args.quarter c.args.half in
    let x_len : length c.turn_all.new.images ≡ n = c.turn_all.ensures.square.0 ∙ ap length c.deref_mut.ensures.value ∙ was.x.size in
    let z_len : length c.turn_all-2.new.images ≡ n = c.turn_all-2.ensures.square.0 ∙ ap length c.deref_mut-2.ensures.value ∙ was.z.size in
    let x_new = with_items_is c.self.inside.x c.turn_all.new.images (x_len ∙ sym was.x.size ∙ sym c.self.inside.x.ok.0) in
    let z_new = with_items_is c.self.inside.z c.turn_all-2.new.images (z_len ∙ sym was.z.size ∙ sym c.self.inside.z.ok.0) in
    let all = after_turned n ts c.args.axis.now c.args.quarter c.args.half
    (record { x = c.self.inside.x.items; z = c.self.inside.z.items })
    (record { x = c.turn_all.new.images; z = c.turn_all-2.new.images })
    (c.requires ∙ h.x.size)
    was
    x_len
    z_len
    (λ q d k. c.turn_all.ensures.turned q d (omega (arith, ap length c.deref_mut.ensures.value, was.x.size)) ∙ ap (λ (s : List Signed). carry us (get_or s q d)) c.deref_mut.ensures.value)
    (λ q d k. c.turn_all-2.ensures.turned q d (omega (arith, ap length c.deref_mut-2.ensures.value, was.z.size)) ∙ ap (λ (s : List Signed). carry us (get_or s q d)) c.deref_mut-2.ensures.value) in
    subst (After n (ts ++ turns_about c.args.axis.now c.args.quarter c.args.half)) (λ i. record { x = sym x_new i; z = sym z_new i }) all
