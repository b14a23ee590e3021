use Rattle.std.proofs.Common.{◌∙◌}
use Rattle.std.proofs.lemmas.Result.{err_from_is_err_and}
use Rattle.job_read.specs.Reading.{reading, seen}
use Rattle.job_read.proofs.Wholes.{is_job, layout_faults}
use Rattle.job_read.proofs.read.read_job.Goals as goal

pub returns-in_err-layout-clause-faults : goal.returns-in_err-layout-clause-faults
returns-in_err-layout-clause-faults g c = λ f told refuses.
    let p = err_from_is_err_and c.from_residual-in_err-layout.result c.from_residual-in_err-layout.ensures.1 in
    rw (p.1, p.2) (layout_faults
    (reading (g.S.Shelf.tells c.args.shelf.now) (g.S.Shelf.faults c.args.shelf.now) (g.S.Shelf.faults c.load_layout.new.shelf) c.args.circuit.now c.args.layout.now c.args.outcomes.now)
    (seen (g.S.Shelf.tells c.load_circuit.new.shelf) (g.S.Shelf.faults c.load_circuit.new.shelf) (g.S.Shelf.faults c.load_layout.new.shelf) c.args.layout.now)
    c.in_ok-circuit.circuit c.in_err-layout.field-0.0
    (record {
      same = c.in_ok-circuit.ensures.told c.args.layout.now;
      only = c.in_ok-circuit.ensures.exact;
      taken = c.in_ok-circuit.ensures.faults;
      exact = c.in_err-layout.ensures.exact;
      faults = c.in_err-layout.ensures.faults;
    }) f told refuses)

pub returns-clause-kept : goal.returns-clause-kept
returns-clause-kept g c =
    is_job (record { circuit = c.in_ok-circuit.circuit; products = c.of.result; layout = c.in_ok-layout.layout; outcomes = c.in_ok-outcomes.outcomes })
    (record {
      circuit = c.in_ok-circuit.ensures.kept;
      products = c.of.ensures ∙ c.in_ok-products.ensures.products;
      same_kinds = c.law_kinds.ensures.statics c.in_ok-circuit.circuit.items;
      sound = c.in_ok-layout.ensures.sound;
      open_for = c.in_ok-layout.ensures.accepted.1;
      right_kinds = c.in_ok-outcomes.ensures.kinds;
      few_fails = c.in_ok-outcomes.ensures.few;
    })
