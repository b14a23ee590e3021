use Rattle.job_read.specs.declared.fault.JobFault.TheVariants as job
use Rattle.job_read.specs.Reading.{seen}
use Rattle.tool_top.specs.declared.fault.ToolFault.{ToolFault}
use Rattle.tool_top.specs.inside.Told.{EndsBy}
use Rattle.tool_top.proofs.Accepting.{done_job}
use Rattle.tool_top.proofs.Refusing.{by_circuit, ends_by}
use Rattle.tool_top.proofs.lower.lower.Goals as goal

pub returns-in_err-circuit-clause-complete : goal.returns-in_err-circuit-clause-complete
returns-in_err-circuit-clause-complete g c = λ a.
    done_job c.from_residual.result c.in_err-circuit.field-0.0 c.from_residual.ensures.1 (c.in_err-circuit.ensures.exact a.1.0 a.0 a.1.1)

pub returns-in_err-circuit-clause-refuses : goal.returns-in_err-circuit-clause-refuses
returns-in_err-circuit-clause-refuses g c = λ f x.
    let end = c.from_residual.result in
    by_circuit (λ (h : ToolFault). EndsBy h end) (seen (g.S.Shelf.tells c.args.shelf.now) (g.S.Shelf.faults c.args.shelf.now) (g.S.Shelf.faults c.load_circuit.new.shelf) c.args.circuit.now)
    (λ h told refused. ends_by c.in_err-circuit.field-0.0 (job.Circuit h) end c.from_residual.ensures.1 (c.in_err-circuit.ensures.faults h told refused))
    f x

pub returns-clause-refuses : goal.returns-clause-refuses
returns-clause-refuses g c = λ f x.
    by_circuit (λ (h : ToolFault). ⊥) (seen (g.S.Shelf.tells c.args.shelf.now) (g.S.Shelf.faults c.args.shelf.now) (g.S.Shelf.faults c.load_circuit.new.shelf) c.args.circuit.now)
    c.in_ok-circuit.ensures.faults f x
