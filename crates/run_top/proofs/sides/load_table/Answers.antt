use Rattle.job_read.specs.Shelves.{seen_on, shelved}
use Rattle.run_top.proofs.Shifts.{outcomes_stop}
use Rattle.run_top.specs.Sides.{outcomes_at}
use Rattle.std.proofs.Common.{map, string_bytes, subst, List, ℕ}
use Rattle.job_read.specs.Jobs.{OutcomesStop}
use Rattle.run_top.proofs.sides.load_table.Goals as goal

pub returns-clause-stops : goal.returns-clause-stops
returns-clause-stops g c = λ g' e.
    let r = shelved g.S.Shelf.tells g.S.Shelf.faults c.args.shelf.now c.load_outcomes.new.shelf in (
      c.in-Err-load_outcomes.fault,
      c.of_program-in-Err-load_outcomes.ensures,
      outcomes_stop (seen_on r (outcomes_at (map string_bytes c.args.pairs.now) c.args.program)) c.args.program c.args.circuit.now g' c.args.known.now c.in-Err-load_outcomes.fault e
          (subst (λ (n : List ℕ). OutcomesStop (seen_on r n) c.args.circuit.now c.args.known.now c.in-Err-load_outcomes.fault) c.name_at-name.ensures c.in-Err-load_outcomes.ensures.stops),
    )
