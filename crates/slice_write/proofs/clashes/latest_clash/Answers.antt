use Rattle.std.proofs.Common.{◌-◌, ◌<◌, length, get_or, sym, ◌∙◌, arith}
use Rattle.slice_write.specs.inside.Clashes.{placed_at}
use Rattle.slice_write.proofs.Clashing.{clash_start, clash_skip, clash_here, clash_floor, clash_end, commute_looked}
use Rattle.slice_write.proofs.clashes.latest_clash.Goals as goal

pub loop-k-init : goal.loop-k-init
loop-k-init c = clash_start c.args.products.now c.args.placed.now c.args.product

pub loop-k-preserved : goal.loop-k-preserved
loop-k-preserved c =
    let inside : c.loop-k.k - 1 < length c.args.placed.now = omega (arith, c.loop-k.auto.k, c.loop-k-test.true) in
    let looked = commute_looked c.args.products.now (get_or c.args.placed.now (c.loop-k.k - 1) (placed_at 0 0)).product c.args.product _ _ (c.requires.placed.numbered (c.loop-k.k - 1) (placed_at 0 0) inside) c.requires.product c.index-products-product-in-loop-k.is c.index-products-product.is in
    clash_skip c.args.products.now c.args.placed.now c.loop-k.k c.args.product (placed_at 0 0) c.loop-k-test.true c.loop-k.auto.k (looked ∙ sym c.commute.ensures ∙ c.if-not-commute.false) c.loop-k.invariant

pub returns-then-slice-floor : goal.returns-then-slice-floor
returns-then-slice-floor c =
    clash_floor c.args.products.now c.args.placed.now c.loop-k.k c.args.product c.args.floor (placed_at 0 0) c.loop-k-test.true c.loop-k.auto.k c.requires.placed.sorted c.loop-k.invariant c.if-slice-floor.true

pub returns-then-not-commute : goal.returns-then-not-commute
returns-then-not-commute c =
    let inside : c.loop-k.k - 1 < length c.args.placed.now = omega (arith, c.loop-k.auto.k, c.loop-k-test.true) in
    let looked = commute_looked c.args.products.now (get_or c.args.placed.now (c.loop-k.k - 1) (placed_at 0 0)).product c.args.product _ _ (c.requires.placed.numbered (c.loop-k.k - 1) (placed_at 0 0) inside) c.requires.product c.index-products-product-in-loop-k.is c.index-products-product.is in
    clash_here c.args.products.now c.args.placed.now c.loop-k.k c.args.product c.args.floor (placed_at 0 0) c.loop-k-test.true c.loop-k.auto.k c.requires.placed.sorted (looked ∙ sym c.commute.ensures ∙ c.if-not-commute.true) c.loop-k.invariant c.if-slice-floor.false

pub returns : goal.returns
returns c = clash_end c.args.products.now c.args.placed.now c.loop-k.k c.args.product c.args.floor c.loop-k-test.false c.loop-k.invariant
