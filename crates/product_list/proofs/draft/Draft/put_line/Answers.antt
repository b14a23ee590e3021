use Rattle.std.proofs.Common.{◌≡◌, ◌<◌, length, sym, ◌∙◌, ap, arith}
use Rattle.source_model.specs.declared.Circuit.{Circuit}
use Rattle.product_list.specs.ListText.{at_line}
use Rattle.product_list.proofs.Ruling.{line_register, line_many, line_sizes, line_product}
use Rattle.product_list.proofs.draft.Draft.put_line.Goals as goal

pub returns-then-len-ge-MOST_PRODUCTS : goal.returns-then-len-ge-MOST_PRODUCTS
returns-then-len-ge-MOST_PRODUCTS c = rw c.at.ensures (ap (at_line c.args.number) (line_many c.args.self.now c.args.line _ _ c.in-Product.is (let e : length c.self.inside.items.items ≡ length c.args.self.now.items = ap (λ (d : Circuit). length d.items) c.self.view_is in omega (arith, c.self.inside.items.ok.0, c.len.ensures, c.if-len-ge-MOST_PRODUCTS.true))))

pub returns-in-Register : goal.returns-in-Register
returns-in-Register c = rw (line_register c.args.self.now c.args.line _ _ c.in-Register.is) c.put_register.ensures

pub returns-in-None : goal.returns-in-None
returns-in-None c = rw c.at-in-None.ensures (ap (at_line c.args.number) (line_sizes c.args.self.now c.args.line _ _ c.in-Product.is
    (let e : length c.self.inside.items.items ≡ length c.args.self.now.items = ap (λ (d : Circuit). length d.items) c.self.view_is in omega (arith, c.self.inside.items.ok.0, c.len.ensures, c.if-len-ge-MOST_PRODUCTS.false))
    (λ same. (rw c.in-None.is at c.in_ok-read_axis-in-Product.ensures.none) (same ∙ ap (λ (d : Circuit). d.qubits) (sym c.self.view_is)))))

pub returns-in-Some : goal.returns-in-Some
returns-in-Some c =
    let e : length c.self.inside.items.items ≡ length c.args.self.now.items = ap (λ (d : Circuit). length d.items) c.self.view_is in
    let few : length c.args.self.now.items < 16384 = omega (arith, c.self.inside.items.ok.0, c.len.ensures, c.if-len-ge-MOST_PRODUCTS.false) in
    let found = rw c.in-Some.is at c.in_ok-read_axis-in-Product.ensures.some in
    rw (line_product c.args.self.now c.args.line _ _ c.in-Some.axis c.in-Product.is few found.0 (found.1 ∙ ap (λ (d : Circuit). d.qubits) c.self.view_is)) c.put_product.ensures
