use Rattle.std.proofs.Common.{drop}
use Rattle.std.proofs.lemmas.Result.{err_from_is_err_and}
use Rattle.patch_base.specs.Texts.{lines}
use Rattle.patch_layout.proofs.Refusing.{body_refused}
use Rattle.patch_layout.proofs.reader.read_drawing.Goals as goal

pub returns-in_err-lines-clause-refused : goal.returns-in_err-lines-clause-refused
returns-in_err-lines-clause-refused c = let p = err_from_is_err_and c.from_residual.result c.from_residual.ensures.1 in
    rw (p.1, p.2) (body_refused (lines c.args.text.now) (lines (drop c.in-Some.next c.args.text.now)) c.in-Some.first.now c.in-Some-read_header.rows c.in-Some-read_header.columns _ c.in-Some.ensures.2 c.in-Some-read_header.ensures.value c.in_err-lines.ensures.refused)
