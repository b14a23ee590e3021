use Rattle.std.proofs.Common.{arith}
use Rattle.std.proofs.lemmas.Result.{err_from_is_err_and}
use Rattle.outcome_table.proofs.Reading.{line_broken, line_read}
use Rattle.outcome_table.proofs.read.read_lines.Goals as goal

pub returns-in_err-take-clause-broken : goal.returns-in_err-take-clause-broken
returns-in_err-take-clause-broken c =
    let p = err_from_is_err_and c.from_residual-in_err-take.result c.from_residual-in_err-take.ensures.1 in
    rw (p.1, p.2) (line_broken _ _ _ _ _ c.loop-line.number c.loop-line.draft c.in_err-take.field-0.0 c.loop-line.invariant.0 c.in-Some.ensures.lines c.in_err-take.ensures.broken)

pub loop-line-preserved : goal.loop-line-preserved
loop-line-preserved c =
    let inside = c.in-Some.ensures.within.goes_on in
    let starts = c.in-Some.ensures.line.start in
    let few = c.loop-line.invariant.1 in
    (line_read _ _ _ _ _ c.loop-line.number c.loop-line.draft c.take.new.self c.loop-line.invariant.0 c.in-Some.ensures.lines c.in_ok-take.ensures.kept, omega arith)
