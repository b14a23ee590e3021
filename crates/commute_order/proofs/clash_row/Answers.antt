use Rattle.std.proofs.Common.{◌≡◌, ◌+◌, ◌<◌, Bool, true, not, if◌then◌else◌, List, [], length, get_or, set, subst, ap, sym, ◌∙◌, arith}
use Rattle.std.proofs.lemmas.List.{get_or_read}
use Rattle.pauli_product.specs.declared.Letter.TheVariants.{I, X, Z}
use Rattle.pauli_product.specs.Letters.{letters_clash}
use Rattle.pauli_product.specs.Signed.{Signed, plus, commute}
use Rattle.commute_order.specs.inside.Columns.{IsColumns}
use Rattle.commute_order.proofs.ColumnLaws.{added}
use Rattle.commute_order.proofs.clash_row.Goals as goal

pub returns-clause-x : goal.returns-clause-x
returns-clause-x c =
    let ps = c.args.products.now in
    let old = c.args.x.now.items in
    let e = get_or_read ps c.args.p c.index-products-p.result (omega arith) c.index-products-p.is (plus []) in
    added X ps c.args.p (length old) (length ps) old c.add_product.new.columns.items c.requires.within c.requires.x c.add_product.ensures.size
    (λ q k. c.add_product.ensures.set q k ∙ ap (λ (pr : Signed). if letters_clash X (get_or pr.letters q I) then set (get_or old q []) c.args.p true else get_or old q []) e)

pub returns-clause-z : goal.returns-clause-z
returns-clause-z c =
    let ps = c.args.products.now in
    let old = c.args.z.now.items in
    let e = get_or_read ps c.args.p c.index-products-p.result (omega arith) c.index-products-p.is (plus []) in
    added Z ps c.args.p (length c.args.x.now.items) (length ps) old c.add_product-2.new.columns.items c.requires.within c.requires.z (c.add_product-2.ensures.size ∙ c.requires.z.size)
    (λ q k. c.add_product-2.ensures.set q (omega (arith, c.requires.z.size)) ∙ ap (λ (pr : Signed). if letters_clash Z (get_or pr.letters q I) then set (get_or old q []) c.args.p true else get_or old q []) e)

pub returns-clause-marks : goal.returns-clause-marks
returns-clause-marks c = λ j h.
    let ps = c.args.products.now in
    let p = c.args.p in
    let n = length c.args.x.now.items in
    let product = c.index-products-p.result in
    let e : product ≡ get_or ps p (plus []) = get_or_read ps p product (omega arith) c.index-products-p.is (plus []) in
    let long : length product.letters ≡ n = ap (λ (pr : Signed). length pr.letters) e ∙ c.requires.qubits p (plus []) c.requires.within in
    let cx : IsColumns X ps (p + 1) n (length ps) c.add_product.new.columns.items = returns-clause-x c in
    let cz : IsColumns Z ps (p + 1) n (length ps) c.add_product-2.new.columns.items = returns-clause-z c in
    let xs = subst (λ (v : List (List Bool)). IsColumns X ps (p + 1) (length product.letters) (length ps) v) (sym c.deref.ensures.value) (subst (λ m. IsColumns X ps (p + 1) m (length ps) c.add_product.new.columns.items) (sym long) cx) in
    let zs = subst (λ (v : List (List Bool)). IsColumns Z ps (p + 1) (length product.letters) (length ps) v) (sym c.deref-2.ensures.value) (subst (λ m. IsColumns Z ps (p + 1) m (length ps) c.add_product-2.new.columns.items) (sym long) cz) in
    let inside : j < length ps = omega arith in
    c.mark_clashes.ensures.marks ps j xs zs (c.requires.qubits j (plus []) inside ∙ sym long) h
    ∙ ap (λ (pr : Signed). not (commute (get_or ps j (plus [])) pr)) e
