use Rattle.std.proofs.Common.{◌≡◌, ◌-◌, arith, ℕ, sym, subst, ◌∙◌}
use Rattle.std.proofs.lemmas.Bool.{false≢true}
use Rattle.least_region.specs.inside.Growth.{MergedTo}
use Rattle.least_region.proofs.Merging.{merged_to_kept, merged_to_more, row_at}
use Rattle.least_region.proofs.merge.merge_parts.Goals as goal
use Rattle.least_region.proofs.merge.merge_parts.Goals.{then-is_split, else-is_split}

pub loop-one-preserved : goal.loop-one-preserved
loop-one-preserved c =
    let n = c.loop-one.one in
    let b = c.args.subset - c.loop-one.one in
    elim c.if-is_split.branch [
      | then-is_split w ↦
          let (le, apart) = c.is_split.ensures.0 w.if-is_split.true in
          let is-one = row_at c.args.rows.now c.loop-one.one w.index-rows-one.result w.sizes-first.result.now (omega arith) w.index-rows-one.is w.sizes-first.ensures in
          let is-other = row_at c.args.rows.now (c.args.subset - c.loop-one.one) w.index-rows-other.result w.sizes-second.result.now (omega arith) w.index-rows-other.is w.sizes-second.ensures in
          let size = (c.requires.rows _ _ is-one).0 in
          rw w.row-is
          (merged_to_more c.args.rows.now c.args.subset c.args.limit c.args.row.now c.loop-one.row w.merge.new.row w.sizes-first.result.now w.sizes-second.result.now c.loop-one.one (c.args.subset - c.loop-one.one)
          c.loop-one.invariant (omega arith) (omega arith) le apart is-one is-other (omega arith) w.merge.ensures)
      | else-is_split w ↦
          rw w.row-is
          (merged_to_kept c.args.rows.now c.args.subset c.args.limit c.args.row.now c.loop-one.row c.loop-one.one (c.args.subset - c.loop-one.one) c.loop-one.invariant (omega arith)
          (λ both. false≢true (sym w.if-is_split.false ∙ c.is_split.ensures.1 both)))
    ]

pub returns : goal.returns
returns c = let e : c.loop-one.one ≡ c.args.subset = omega arith in subst (λ (n : ℕ). MergedTo c.args.rows.now c.args.subset c.args.limit c.args.row.now c.loop-one.row n) e c.loop-one.invariant
