use Rattle.std.proofs.Common.{refl, arith, ap}
use Rattle.std.proofs.lemmas.Result.{err_from_is_err_and}
use Rattle.patch_base.specs.Texts.{lines}
use Rattle.patch_base.proofs.Pieces.{no_lines_past}
use Rattle.product_list.proofs.Texts.{lines_more, lines_end, lines_fail}
use Rattle.product_list.proofs.list.read_lines.Goals as goal

pub returns-in_err-take : goal.returns-in_err-take
returns-in_err-take c =
    let p = err_from_is_err_and c.from_residual.result c.from_residual.ensures.1 in
    rw (p.1, p.2) (lines_fail c.args.two c.loop-line.number c.loop-line.draft _ _ _ _ c.in_err-take.field-0.0 c.loop-line.invariant.0 c.in-Some.ensures.lines c.in_err-take.ensures)

pub loop-line-preserved : goal.loop-line-preserved
loop-line-preserved c =
    let inside = c.in-Some.ensures.within.goes_on in
    let starts = c.in-Some.ensures.line.start in
    let few = c.loop-line.invariant.1 in
    (lines_more c.args.two c.loop-line.number c.loop-line.draft c.take.new.self _ _ _ _ c.loop-line.invariant.0 c.in-Some.ensures.lines c.in_ok-take.ensures, omega arith)

pub returns : goal.returns
returns c = lines_end c.args.two c.loop-line.number c.loop-line.draft _ _ c.loop-line.invariant.0 (ap lines (no_lines_past c.args.text.now c.loop-line.at (c.in_default.ensures.end.0 refl)))
