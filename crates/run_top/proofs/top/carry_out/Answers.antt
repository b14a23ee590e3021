use Rattle.std.proofs.Common.{ap, sym, subst}
use Rattle.tool_words.specs.Commands.{Run, run_of}
use Rattle.fault_lines.specs.Sinks.{writing}
use Rattle.job_read.specs.Shelves.{shelved}
use Rattle.run_top.specs.Ends.{Ends}
use Rattle.run_top.specs.Told.{Accepts}
use Rattle.run_top.proofs.top.carry_out.Goals as goal

pub returns-in-Big-clause-ends : goal.returns-in-Big-clause-ends
returns-in-Big-clause-ends g c =
    let r = shelved g.S.Shelf.tells g.S.Shelf.faults c.args.shelf.now c.args.shelf.now in
    let w = writing g.O.Sink.taken g.O.Sink.faults c.args.out.now c.run_big.new.out in
    subst (λ (t : Run). Ends r w t c.run_big.result) (sym (ap run_of c.in-Big.is)) (c.run_big.ensures.ends r)

pub returns-in-Big-clause-complete : goal.returns-in-Big-clause-complete
returns-in-Big-clause-complete g c = λ a.
    let r = shelved g.S.Shelf.tells g.S.Shelf.faults c.args.shelf.now c.args.shelf.now in
    c.run_big.ensures.complete r (subst (Accepts r) (ap run_of c.in-Big.is) a)
