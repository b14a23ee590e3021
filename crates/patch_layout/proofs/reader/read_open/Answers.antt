use Rattle.std.proofs.Common.{List, sym, subst}
use Rattle.patch_base.specs.Texts.{lines}
use Rattle.patch_layout.specs.declared.line.Line.{Line}
use Rattle.patch_layout.specs.inside.Reading.{Proper}
use Rattle.patch_layout.proofs.Bodies.{proper_formed}
use Rattle.patch_layout.proofs.reader.read_open.Goals as goal

pub lay_out-requires : goal.lay_out-requires
lay_out-requires c =
    let d = c.in_ok-drawing.drawing in
    let P : List Line → Type 0 = λ xs. Proper xs in
    subst P (sym c.deref.ensures.value) (proper_formed (lines c.args.text.now) d.rows d.columns d.lines.items c.in_ok-drawing.ensures.formed)
