use Rattle.std.proofs.Common.{◌++◌, ◌∷◌, [], List, get_or, take, map, ◌∙◌, ap, sym, append_assoc}
use Rattle.std.proofs.lemmas.List.{map_more}
use Rattle.slice_write.specs.declared.marks.Mark.{Mark}
use Rattle.slice_write.specs.inside.Marks.{mark}
use Rattle.slice_write.proofs.page.mark.Goals as goal

pub loop-cell-preserved : goal.loop-cell-preserved
loop-cell-preserved c =
    let m = mark c.args.product (get_or c.args.cells.now c.loop-cell.cell-index 0) in
    c.in_ok-push.ensures.items ∙ ap (λ (l : List Mark). l ++ m ∷ []) c.loop-cell.invariant
    ∙ append_assoc c.args.marks.now.items (map (mark c.args.product) (take c.loop-cell.cell-index c.args.cells.now)) (m ∷ [])
    ∙ ap (λ (l : List Mark). c.args.marks.now.items ++ l) (sym (map_more (mark c.args.product) c.args.cells.now c.loop-cell.cell-index 0 c.loop-cell-test.true))
