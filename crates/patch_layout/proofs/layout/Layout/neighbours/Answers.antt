use Rattle.std.proofs.Common.{◌≡◌, ◌∙◌, ◌%◌, ◌<◌, [], ◌∷◌, length, refl, sym, subst, arith}
use Rattle.std.proofs.lemmas.Option.{get_or_from_slice_get}
use Rattle.patch_layout.specs.Grid.{Grid, neighbours, above, left, right, below}
use Rattle.patch_layout.specs.Kept.{grid_of}
use Rattle.patch_layout.proofs.Neighbours.{row_ends, some_columns}
use Rattle.patch_layout.proofs.layout.Layout.neighbours.Goals as goal
use Rattle.patch_layout.proofs.layout.Layout.neighbours.Goals.{then-cell-columns, else-cell-columns, then-column-eq0, else-column-eq0, then-column-columns, else-column-columns, then-cell-columns-2, else-cell-columns-2}

pub returns-clause-value : goal.returns-clause-value
returns-clause-value c =
    let s = c.self.inside in
    let g = grid_of s.rows s.columns s.sites.items in
    let i = c.args.cell in
    let e = row_ends i s.columns (some_columns _ c.self.invariant.sound) in
    let column : c.index-column.result.now ≡ i % s.columns = c.index-column.ensures ∙ get_or_from_slice_get s.column_of.items i (i % s.columns) c.index-column.result.now (c.self.invariant.columns i (let Q : Grid → Type 0 = λ h. i < length h.sites in subst Q (sym c.self.view_is) c.requires)) in
    let a : c.if-cell-columns.above ≡ above g i = elim c.if-cell-columns.branch [ then-cell-columns w ↦ grind (arith, w.if-cell-columns.true) | else-cell-columns w ↦ grind (arith, w.if-cell-columns.false) ] in
    let l : c.if-column-eq0.left ≡ left g i = elim c.if-column-eq0.branch [ then-column-eq0 w ↦ grind (arith, w.if-column-eq0.true, column) | else-column-eq0 w ↦ grind (arith, w.if-column-eq0.false, column) ] in
    let r : c.if-column-columns.right ≡ right g i = elim c.if-column-columns.branch [ then-column-columns w ↦ grind (arith, w.if-column-columns.true, e, column) | else-column-columns w ↦ grind (arith, w.if-column-columns.false, e, column) ] in
    let b : c.if-cell-columns-2.below ≡ below g i = elim c.if-cell-columns-2.branch [ then-cell-columns-2 w ↦ grind (arith, w.if-cell-columns-2.true) | else-cell-columns-2 w ↦ grind (arith, w.if-cell-columns-2.false) ] in
    let P : Grid → Type 0 = λ h. c.if-cell-columns.above ∷ c.if-column-eq0.left ∷ c.if-column-columns.right ∷ c.if-cell-columns-2.below ∷ [] ≡ neighbours h i in
    subst P c.self.view_is (rw (a, l, r, b) refl)
