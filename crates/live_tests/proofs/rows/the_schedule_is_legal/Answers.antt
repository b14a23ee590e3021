use Rattle.std.proofs.Common.{sym, subst}
use Rattle.source_model.specs.Circuits.{WellFormed}
use Rattle.live_tests.proofs.rows.the_schedule_is_legal.Goals as goal

pub verify-requires-clause-circuit : goal.verify-requires-clause-circuit
verify-requires-clause-circuit g c =
    subst WellFormed (sym c.in_ok-started.ensures.circuit) c.in_ok-job.ensures.circuit.well_formed
