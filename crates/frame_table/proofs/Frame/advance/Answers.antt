use Rattle.std.proofs.Common.{◌≡◌, List, ◌++◌, length, get_or, subst, ap, sym, ◌∙◌, arith}
use Rattle.pauli_product.specs.declared.Letter.TheVariants.{X, Z}
use Rattle.pauli_product.specs.Signed.{Signed, OfLength}
use Rattle.pauli_product.specs.Pulls.{carry}
use Rattle.pauli_product.proofs.Laws.{carry_length}
use Rattle.std.proofs.lemmas.List.{with_items_is}
use Rattle.frame_table.specs.Images.{After, turns_about}
use Rattle.frame_table.proofs.Corrected.{after_turned, turned_anyhow}
use Rattle.frame_table.proofs.Frame.advance.Goals as goal

pub returns-clause-corrected : goal.returns-clause-corrected
returns-clause-corrected c = λ n ts h.
    let own = c.args.own.now in
    let a = c.args.quarter in
    let b = c.args.half in
    let axis = carry ts own in
    let was = subst (After n ts) (sym c.self.view_is) h in
    let long : OfLength n own = c.requires ∙ h.x.size in
    let read : After n ts (record { x = c.deref.result.now; z = c.deref-2.result.now }) = rw (c.deref.ensures.value, c.deref-2.ensures.value) was in
    let is_axis = c.multiply_images.ensures.image n ts read in
    let xs = c.deref_mut.ensures.value in
    let zs = c.deref_mut-2.ensures.value in
    let x_len : length c.turn_at.new.images ≡ n = c.turn_at.ensures.square.0 ∙ ap length c.deref_mut.ensures.value ∙ was.x.size in
    let z_len : length c.turn_at-2.new.images ≡ n = c.turn_at-2.ensures.square.0 ∙ ap length c.deref_mut-2.ensures.value ∙ was.z.size in
    let x_new = with_items_is c.self.inside.x c.turn_at.new.images (x_len ∙ sym was.x.size ∙ sym c.self.inside.x.ok.0) in
    let z_new = with_items_is c.self.inside.z c.turn_at-2.new.images (z_len ∙ sym was.z.size ∙ sym c.self.inside.z.ok.0) in
    let all = after_turned n ts axis a b
    (record { x = c.self.inside.x.items; z = c.self.inside.z.items })
    (record { x = c.turn_at.new.images; z = c.turn_at-2.new.images })
    (carry_length n ts own h.long long)
    was
    x_len
    z_len
    (turned_anyhow n X ts own a b c.self.inside.x.items c.turn_at.new.images h.long long was.x
    (λ q d k other. c.turn_at.ensures.turned q d (omega (arith, ap length xs, was.x.size)) other ∙ (λ i. carry (turns_about (is_axis i) a b) (get_or (xs i) q d)))
    (λ q d k plain. c.turn_at.ensures.kept q d (omega (arith, ap length xs, was.x.size)) plain ∙ ap (λ (s : List Signed). get_or s q d) xs))
    (turned_anyhow n Z ts own a b c.self.inside.z.items c.turn_at-2.new.images h.long long was.z
    (λ q d k other. c.turn_at-2.ensures.turned q d (omega (arith, ap length zs, was.z.size)) other ∙ (λ i. carry (turns_about (is_axis i) a b) (get_or (zs i) q d)))
    (λ q d k plain. c.turn_at-2.ensures.kept q d (omega (arith, ap length zs, was.z.size)) plain ∙ ap (λ (s : List Signed). get_or s q d) zs)) in
    subst (After n (ts ++ turns_about axis c.args.quarter c.args.half)) (λ i. record { x = sym x_new i; z = sym z_new i }) all
