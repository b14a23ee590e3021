use Rattle.std.proofs.Common.{is_some, List, ℕ, ◌↔◌}
use Rattle.patch_layout.specs.declared.plan.Parent.{Parent}
use Rattle.patch_layout.specs.Certificate.{Certified}
use Rattle.patch_layout.specs.Case.{Ascending}
use Rattle.patch_layout.specs.Region.{Fit}
use Rattle.patch_layout.proofs.Judging.{few_cells}
use Rattle.patch_layout.proofs.Certifying.{both_listed, fits_ascending, neither_listed, lists_given}
use Rattle.patch_layout.proofs.certifier.certify.Goals as goal

pub returns-then-not-cells_fit-clause-certified : goal.returns-then-not-cells_fit-clause-certified
returns-then-not-cells_fit-clause-certified c =
    neither_listed _ c.cells-list.result.now c.cells_fit.result c.cells-list.ensures c.cells_fit.ensures.value c.if-not-cells_fit.true

pub touches_of-requires-clause-few : goal.touches_of-requires-clause-few
touches_of-requires-clause-few c = few_cells c.args.layout.now c.cells-list.result.now _ c.cells_fit.ensures.sound (c.cells_fit.ensures.value.0 c.if-not-cells_fit.false).1

pub touches_of-requires-clause-ascending : goal.touches_of-requires-clause-ascending
touches_of-requires-clause-ascending c =
    fits_ascending c.args.layout.now c.cells-list.result.now (c.cells_fit.ensures.value.0 c.if-not-cells_fit.false).1

pub returns-clause-certified : goal.returns-clause-certified
returns-clause-certified c =
    let T : List Parent → List ℕ → Type 0 = λ ps ts.
    Certified (record { grid = c.args.layout.now; rotation = is_some c.args.port; axis = c.args.axis; port = c.args.port; cells = c.args.cells; parents = ps; touches = ts })
    ↔ (Ascending c.args.cells × Fit c.args.layout.now c.args.axis c.args.port c.args.cells) in
    lists_given T _ c.in_ok-parents.parents.items _ c.in_ok-touches.touches.items c.of-2.ensures c.of-3.ensures
    (both_listed c.args.layout.now c.args.axis c.args.port c.args.cells c.cells-list.result.now c.in_ok-parents.parents.items c.in_ok-touches.touches.items c.in_ok-sides.sides.items c.deref.result.now
    c.cells_fit.ensures.sound c.cells-list.ensures c.in_ok-sides.ensures c.deref.ensures.value (c.cells_fit.ensures.value.0 c.if-not-cells_fit.false).0
    c.in_ok-parents.ensures.sizes c.in_ok-parents.ensures.fits c.in_ok-touches.ensures.sizes c.in_ok-touches.ensures.fits)
