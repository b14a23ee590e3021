use Rattle.std.proofs.Common.{◌+◌, List, length, get_or, take, arith, ◌∙◌, ap, refl, subst}
use Rattle.std.proofs.lemmas.List.{take_all, get_or_default}
use Rattle.slice_write.specs.declared.marks.Mark.{Mark}
use Rattle.slice_write.specs.inside.Marks.{mark, mark_at, with_mark}
use Rattle.slice_write.specs.inside.Pages.{Draws}
use Rattle.slice_write.proofs.Drawn.{as_long, blanked, draws_agree, mark_more}
use Rattle.slice_write.proofs.drawing.Drawing.show.Goals as goal

pub copy_from_slice-requires : goal.copy_from_slice-requires
copy_from_slice-requires c =
    let (g, shown, draws, narrow) = c.requires in
    omega (arith, as_long g shown c.args.self.now draws, ap length c.deref.ensures.value, c.args.self.now.bytes.ok.0)

pub loop-mark-init : goal.loop-mark-init
loop-mark-init c = λ g shown draws narrow. blanked g shown c.args.self.now _ draws (c.copy_from_slice.ensures.items ∙ c.deref.ensures.value) refl refl

pub put-requires : goal.put-requires
put-requires c =
    let (g, shown, draws, narrow) = c.requires in
    (g, mark_at (take c.loop-mark.mark-index c.args.marks.now), c.loop-mark.invariant g shown draws narrow, narrow c.loop-mark.mark-index (mark 0 0) c.loop-mark-test.true)

pub loop-mark-preserved : goal.loop-mark-preserved
loop-mark-preserved c = λ g shown draws narrow.
    let i = c.loop-mark.mark-index in
    let m = get_or c.args.marks.now i (mark 0 0) in
    draws_agree g (with_mark (mark_at (take i c.args.marks.now)) m) (mark_at (take (i + 1) c.args.marks.now)) c.put.new.self
    (λ x. mark_more c.args.marks.now i m x c.loop-mark-test.true (get_or_default c.args.marks.now i m (mark 0 0) c.loop-mark-test.true))
    (c.put.ensures g (mark_at (take i c.args.marks.now)) (c.loop-mark.invariant g shown draws narrow) (narrow i (mark 0 0) c.loop-mark-test.true))

pub returns : goal.returns
returns c = λ g shown draws narrow.
    let P : List Mark → Type 0 = λ l. Draws g (mark_at l) c.loop-mark.self in
    subst P (take_all c.loop-mark.mark-index c.args.marks.now c.loop-mark-test.false) (c.loop-mark.invariant g shown draws narrow)
