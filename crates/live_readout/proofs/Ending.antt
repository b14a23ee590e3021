-- From what a part of the command says to how the command ends.
use Rattle.std.proofs.Common.{◌≡◌, ℕ, List, Result, Ok, Err, sym, subst}
use Rattle.std.specs.Prelude.{IsErrAnd}
use Rattle.source_model.specs.declared.Circuit.{Circuit}
use Rattle.source_model.specs.declared.Given.{Given}
use Rattle.board_core.specs.Position.{Position}
use Rattle.fault_lines.specs.Sinks.{Writing}
use Rattle.board_write.specs.declared.fault.WriteFault.{WriteFault}
use Rattle.board_write.specs.declared.fault.WriteFault.TheVariants as write
use Rattle.board_write.specs.Boards.{IsComplete, WritesText, schedule_of}
use Rattle.board_write.specs.Laws.{CompleteBoardsAreSchedules}
use Rattle.job_read.specs.declared.Job.{Job}
use Rattle.job_read.specs.declared.fault.JobFault.{JobFault}
use Rattle.job_read.specs.Jobs as job_faults
use Rattle.job_read.specs.Jobs.{StandsForJob}
use Rattle.job_read.specs.Kept.{IsJob}
use Rattle.job_read.specs.Shelves.{Shelved}
use Rattle.live_readout.specs.Commands.{Command}
use Rattle.live_readout.specs.declared.fault.LiveFault.{LiveFault}
use Rattle.live_readout.specs.declared.fault.LiveFault.TheVariants as fault
use Rattle.live_readout.specs.inside.Carried.{IsCarriedOut}
use Rattle.live_readout.specs.Faults.{fault_of_write}
use Rattle.live_readout.specs.Ends.{Ends, Outputs, texts}
use Rattle.live_readout.specs.inside.Ends.{IsDone, IsOutside}
use Rattle.live_readout.proofs.Carrying.{complete_for, live_schedule}

-- what the command writes, and how far the output took it
abbrev pub Attempt : Shelved → Writing → Command → Result (Unit {0}) WriteFault → Type 0
Attempt r w t did = (text : List ℕ) × Outputs r t text × WritesText w text did

by_write : (r : Shelved) (w : Writing) (t : Command) (f : WriteFault) → Attempt r w t (Err f) → Ends r w t (Err (fault_of_write f))
by_write r w t write.Failed a = a
by_write r w t write.Memory a = (tt, a.2)

-- the output took a first part of what the command writes, or nothing, out of memory
pub stopped_ends : (r : Shelved) (w : Writing) (t : Command) (f : WriteFault) (end : Result (Unit {0}) LiveFault) → IsErrAnd end (λ e. e ≡ fault_of_write f) → Attempt r w t (Err f) → Ends r w t end
stopped_ends r w t f (Ok done) is a = absurd is
stopped_ends r w t f (Err e) is a = subst (λ (x : LiveFault). Ends r w t (Err x)) (sym is) (by_write r w t f a)

-- what is written of a board whose circuit is the job's
of_job : (P : Circuit → Type 0) (job : Job) (c : Circuit) (b : Position) → IsJob job → c ≡ job.circuit → IsCarriedOut job b → (IsComplete c b job.outcomes.given → P c) → P job.circuit
of_job P job c b kept same done writes =
    subst P same (writes (subst (λ (d : Circuit). IsComplete d b job.outcomes.given) (sym same) (complete_for job b kept done)))

pub live_attempt : (r : Shelved) (w : Writing) (t : Command) (job : Job) (circuit : Circuit) (b : Position) (did : Result (Unit {0}) WriteFault) → CompleteBoardsAreSchedules → StandsForJob (texts r t) job → IsJob job
    → circuit ≡ job.circuit → IsCarriedOut job b → ((table : List Given) → IsComplete circuit b table → WritesText w (schedule_of circuit table b.history) did) → Attempt r w t did
live_attempt r w t job circuit b did law stands kept same done writes = (
  schedule_of job.circuit job.outcomes.given b.history,
  (job, stands, live_schedule law job b kept done),
  of_job (λ (d : Circuit). WritesText w (schedule_of d job.outcomes.given b.history) did) job circuit b kept same done (writes job.outcomes.given),
)

-- ---- errors of known kinds
pub done_job : (end : Result (Unit {0}) LiveFault) (f : JobFault) → IsErrAnd end (λ e. e ≡ fault.Job f) → job_faults.IsOutside f → IsDone end
done_job (Ok done) f is h = absurd is
done_job (Err e) f is h = subst IsOutside (sym is) h

is_outside : (f : WriteFault) → IsOutside (fault_of_write f)
is_outside write.Memory = tt
is_outside write.Failed = tt

pub done_write : (end : Result (Unit {0}) LiveFault) (f : WriteFault) → IsErrAnd end (λ e. e ≡ fault_of_write f) → IsDone end
done_write (Ok done) f is = absurd is
done_write (Err e) f is = subst IsOutside (sym is) (is_outside f)
