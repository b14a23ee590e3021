use Rattle.std.proofs.Common.{length, arith}
use Rattle.std.proofs.lemmas.Option.{get_or_from_slice_get}
use Rattle.patch_layout.specs.declared.layout.Site.TheVariants as site
use Rattle.patch_layout.proofs.Places.{item_is}
use Rattle.patch_layout.proofs.Laying.{lays_none, line_read, laid_step, double_step}
use Rattle.patch_layout.proofs.reader.lay.Goals as goal
use Rattle.patch_layout.proofs.reader.lay.Goals.{in-Ancilla, in_default}

pub loop-line-init : goal.loop-line-init
loop-line-init c = lays_none c.args.lines.now c.args.sites.now c.requires.clear

pub loop-line-preserved : goal.loop-line-preserved
loop-line-preserved c =
    let r = line_read c.args.lines.now c.loop-line.line-index _ c.cell-cell.result (length c.args.sites.now) c.loop-line-test.true c.cell-cell.ensures c.requires.within in
    let in' = r.1 in
    elim c.match-sites-at.branch [
      | in-Ancilla w ↦
          rw (w.sites-is, w.double-is) (laid_step c.args.lines.now c.loop-line.line-index _ c.cell-cell.result w.site.result c.loop-line.sites c.loop-line.double c.loop-line.invariant r.0 c.cell-cell.ensures w.site.ensures (omega arith)
          (item_is c.loop-line.sites c.cell-cell.result site.Ancilla site.Ancilla (omega arith) w.in-Ancilla.is))
      | in_default w ↦
          rw (w.sites-is, w.double-is) (double_step c.args.lines.now c.loop-line.line-index _ c.cell-cell.result w.least_of.result c.loop-line.sites c.loop-line.double c.loop-line.invariant r.0 c.cell-cell.ensures (omega arith)
          (λ e. w.in_default.not-Ancilla (get_or_from_slice_get c.loop-line.sites c.cell-cell.result site.Ancilla site.Ancilla e)) w.least_of.ensures.none w.least_of.ensures.some)
    ]
