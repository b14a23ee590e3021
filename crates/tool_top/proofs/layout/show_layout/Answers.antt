use Rattle.job_read.specs.declared.fault.JobFault.TheVariants as job
use Rattle.tool_top.specs.declared.fault.ToolFault.{ToolFault}
use Rattle.tool_top.specs.declared.fault.ToolFault.TheVariants as fault
use Rattle.job_read.specs.Shelves.{shelved}
use Rattle.tool_top.specs.inside.Told.{EndsBy}
use Rattle.tool_top.proofs.Accepting.{done_job, told_later, layout_later}
use Rattle.tool_top.proofs.Refusing.{by_layout, ends_by, ends_outside, refused_later}
use Rattle.tool_top.proofs.layout.show_layout.Goals as goal

pub returns-in_err-circuit-clause-complete : goal.returns-in_err-circuit-clause-complete
returns-in_err-circuit-clause-complete g c = λ a.
    done_job c.from_residual.result c.in_err-circuit.field-0.0 c.from_residual.ensures.1 (c.in_err-circuit.ensures.exact a.2.0 a.0 a.2.1)

pub returns-in_err-layout-clause-complete : goal.returns-in_err-layout-clause-complete
returns-in_err-layout-clause-complete g c = λ a.
    let tells = g.S.Shelf.tells c.args.shelf.now in
    let tells' = g.S.Shelf.tells c.load_circuit.new.shelf in
    let after = g.S.Shelf.faults c.load_layout.new.shelf in
    let same = c.in_ok-circuit.ensures.exact a.2.0 a.0 a.2.1 in
    let told = c.in_ok-circuit.ensures.told c.args.layout.now in
    done_job c.from_residual-in_err-layout.result c.in_err-layout.field-0.0 c.from_residual-in_err-layout.ensures.1
    (c.in_err-layout.ensures.exact a.2.2.0 (told_later tells tells' c.args.layout.now told a.1)
    (layout_later tells tells' (g.S.Shelf.faults c.args.shelf.now) (g.S.Shelf.faults c.load_circuit.new.shelf) after after c.args.layout.now a.2.0 c.in_ok-circuit.circuit a.2.2.0 told same a.2.2.1))

pub returns-in_err-circuit-clause-refuses : goal.returns-in_err-circuit-clause-refuses
returns-in_err-circuit-clause-refuses g c = λ f x.
    let e = c.in_err-circuit.field-0.0 in
    let end = c.from_residual.result in
    let is = c.from_residual.ensures.1 in
    by_layout (λ (h : ToolFault). EndsBy h end) (shelved g.S.Shelf.tells g.S.Shelf.faults c.args.shelf.now c.load_circuit.new.shelf) c.args.circuit.now c.args.layout.now
    (λ h told refused. ends_by e (job.Circuit h) end is (c.in_err-circuit.ensures.faults h told refused))
    (λ h circuit told named stands refused. ends_outside (fault.Job e) (fault.Job (job.Layout h)) end is (c.in_err-circuit.ensures.exact circuit told stands))
    f x

pub returns-in_err-layout-clause-refuses : goal.returns-in_err-layout-clause-refuses
returns-in_err-layout-clause-refuses g c = λ f x.
    let tells = g.S.Shelf.tells c.args.shelf.now in
    let tells' = g.S.Shelf.tells c.load_circuit.new.shelf in
    let after = g.S.Shelf.faults c.load_layout.new.shelf in
    let same = c.in_ok-circuit.ensures.told c.args.layout.now in
    let end = c.from_residual-in_err-layout.result in
    by_layout (λ (h : ToolFault). EndsBy h end) (shelved g.S.Shelf.tells g.S.Shelf.faults c.args.shelf.now c.load_layout.new.shelf) c.args.circuit.now c.args.layout.now
    (λ h told refused. absurd (c.in_ok-circuit.ensures.faults h told refused))
    (λ h circuit told named stands refused. ends_by c.in_err-layout.field-0.0 (job.Layout h) end c.from_residual-in_err-layout.ensures.1
    (c.in_err-layout.ensures.faults h (told_later tells tells' c.args.layout.now same named)
    (refused_later tells tells' (g.S.Shelf.faults c.args.shelf.now) (g.S.Shelf.faults c.load_circuit.new.shelf) after after c.args.layout.now circuit c.in_ok-circuit.circuit h same (c.in_ok-circuit.ensures.exact circuit told stands) refused)))
    f x

pub returns-clause-refuses : goal.returns-clause-refuses
returns-clause-refuses g c = λ f x.
    let tells = g.S.Shelf.tells c.args.shelf.now in
    let tells' = g.S.Shelf.tells c.load_circuit.new.shelf in
    let after = g.S.Shelf.faults c.load_layout.new.shelf in
    let same = c.in_ok-circuit.ensures.told c.args.layout.now in
    by_layout (λ (h : ToolFault). ⊥) (shelved g.S.Shelf.tells g.S.Shelf.faults c.args.shelf.now c.load_layout.new.shelf) c.args.circuit.now c.args.layout.now
    c.in_ok-circuit.ensures.faults
    (λ h circuit told named stands refused. c.in_ok-layout.ensures.faults h (told_later tells tells' c.args.layout.now same named)
    (refused_later tells tells' (g.S.Shelf.faults c.args.shelf.now) (g.S.Shelf.faults c.load_circuit.new.shelf) after after c.args.layout.now circuit c.in_ok-circuit.circuit h same (c.in_ok-circuit.ensures.exact circuit told stands) refused))
    f x
