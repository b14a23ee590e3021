use Rattle.std.proofs.Common.{◌≡◌, ℕ, length, ap, ◌∙◌, arith, subst}
use Rattle.std.proofs.Math.ListN.{length-set}
use Rattle.std.proofs.lemmas.Option.{slice_get-get_or}
use Rattle.board_core.specs.inside.Cells.{IsCellBelow, Taken}
use Rattle.board_core.proofs.CellTables.{take_region_next}
use Rattle.board_core.proofs.cells.take_region.Goals as goal

pub loop-cell-preserved : goal.loop-cell-preserved
loop-cell-preserved c = record {
  size = ap length c.give.ensures ∙ length-set c.loop-cell.holders _ _ ∙ c.loop-cell.invariant.size;
  taken = λ g a f. take_region_next g a f c.args.cells.now c.args.by c.loop-cell.cell-index _ c.args.holders.now c.loop-cell.holders c.give.new.self c.give.ensures (slice_get-get_or c.args.cells.now c.loop-cell.cell-index _ c.loop-cell-test.true) c.requires (c.loop-cell.invariant.taken g a f);
}

pub returns-clause-taken : goal.returns-clause-taken
returns-clause-taken c g a f =
    let e : c.loop-cell.cell-index ≡ length c.args.cells.now = omega (arith, c.loop-cell.auto.cell-index-end) in
    subst (λ (n : ℕ). Taken (IsCellBelow g a f c.args.cells.now n) c.args.by c.args.holders.now c.loop-cell.holders) e (c.loop-cell.invariant.taken g a f)
