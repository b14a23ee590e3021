-- From what a part of a command says to how the command ends.
use Rattle.std.proofs.Common.{◌≡◌, ℕ, List, ◌++◌, Result, Ok, Err, refl, sym, subst}
use Rattle.std.specs.Prelude.{IsErrAnd}
use Rattle.source_model.specs.declared.Circuit.{Circuit}
use Rattle.source_model.specs.declared.Given.{Given}
use Rattle.board_core.specs.Position.{Position}
use Rattle.fault_lines.specs.Sinks.{Writing}
use Rattle.side_by_side.specs.Laws.{ClaimsAreThoseAlone, RegistersAreThoseAlone}
use Rattle.board_write.specs.declared.fault.WriteFault.{WriteFault}
use Rattle.board_write.specs.declared.fault.WriteFault.TheVariants as write
use Rattle.board_write.specs.Boards.{IsComplete, WritesText, bits_shown, schedule_of}
use Rattle.board_write.specs.Laws.{CompleteBoardsAreSchedules}
use Rattle.job_read.specs.declared.Job.{Job}
use Rattle.job_read.specs.declared.fault.JobFault.{JobFault}
use Rattle.job_read.specs.Jobs as job_faults
use Rattle.job_read.specs.Jobs.{StandsForJob}
use Rattle.job_read.specs.Kept.{IsJob}
use Rattle.job_read.specs.Made.{IsBigJob}
use Rattle.job_read.specs.Shelves.{Shelved, job_on}
use Rattle.tool_words.specs.Commands.{Run, run, bits, big, side}
use Rattle.run_top.specs.declared.fault.RunFault.{RunFault}
use Rattle.run_top.specs.declared.fault.RunFault.TheVariants as fault
use Rattle.run_top.specs.Big.{heading, summary}
use Rattle.run_top.specs.Carried.{IsRunSchedule}
use Rattle.run_top.specs.inside.Carried.{IsCarriedOut}
use Rattle.run_top.specs.Ends.{Ends, Outputs}
use Rattle.run_top.specs.Faults.{fault_of_write}
use Rattle.run_top.specs.Told.{IsOutside}
use Rattle.run_top.specs.inside.Told.{IsDone}
use Rattle.run_top.specs.inside.Reads.{IsSideJob}
use Rattle.run_top.proofs.Alone.{side_schedule}
use Rattle.run_top.proofs.Carrying.{complete_for, run_schedule}

-- what the command writes, and how far the output took it
abbrev pub Attempt : Shelved → Writing → Run → Result (Unit {0}) WriteFault → Type 0
Attempt r w t did = (text : List ℕ) × Outputs r t text × WritesText w text did

by_write : (r : Shelved) (w : Writing) (t : Run) (f : WriteFault) → Attempt r w t (Err f) → Ends r w t (Err (fault_of_write f))
by_write r w t write.Failed a = a
by_write r w t write.Memory a = (tt, a.2)

-- the output took a first part of what the command writes, or nothing, out of memory
pub stopped_ends : (r : Shelved) (w : Writing) (t : Run) (f : WriteFault) (end : Result (Unit {0}) RunFault) → IsErrAnd end (λ e. e ≡ fault_of_write f) → Attempt r w t (Err f) → Ends r w t end
stopped_ends r w t f (Ok done) is a = absurd is
stopped_ends r w t f (Err e) is a = subst (λ (x : RunFault). Ends r w t (Err x)) (sym is) (by_write r w t f a)

-- ---- what each command writes

-- what is written of a board whose circuit is the job's
of_job : (P : Circuit → Type 0) (job : Job) (c : Circuit) (b : Position) → IsJob job → c ≡ job.circuit → IsCarriedOut job b → (IsComplete c b job.outcomes.given → P c) → P job.circuit
of_job P job c b kept same done writes =
    subst P same (writes (subst (λ (d : Circuit). IsComplete d b job.outcomes.given) (sym same) (complete_for job b kept done)))

pub run_attempt : (r : Shelved) (w : Writing) (c l o : List ℕ) (k : ℕ) (job : Job) (circuit : Circuit) (b : Position) (did : Result (Unit {0}) WriteFault) → CompleteBoardsAreSchedules → StandsForJob (job_on r c l o) job → IsJob job → circuit ≡ job.circuit → IsCarriedOut job b → ((table : List Given) → IsComplete circuit b table → WritesText w (schedule_of circuit table b.history) did) → Attempt r w (run c l o k) did
run_attempt r w c l o k job circuit b did law stands kept same done writes = (
  schedule_of job.circuit job.outcomes.given b.history,
  (job, stands, run_schedule law job b kept done),
  of_job (λ (d : Circuit). WritesText w (schedule_of d job.outcomes.given b.history) did) job circuit b kept same done (writes job.outcomes.given),
)

pub bits_attempt : (r : Shelved) (w : Writing) (c l o : List ℕ) (k : ℕ) (job : Job) (circuit : Circuit) (b : Position) (did : Result (Unit {0}) WriteFault) → StandsForJob (job_on r c l o) job → IsJob job → circuit ≡ job.circuit → IsCarriedOut job b → ((table : List Given) → IsComplete circuit b table → WritesText w (bits_shown circuit table) did) → Attempt r w (bits c l o k) did
bits_attempt r w c l o k job circuit b did stands kept same done writes = (
  bits_shown job.circuit job.outcomes.given,
  (job, stands, refl),
  of_job (λ (d : Circuit). WritesText w (bits_shown d job.outcomes.given) did) job circuit b kept same done (writes job.outcomes.given),
)

pub big_attempt : (r : Shelved) (w : Writing) (n k : ℕ) (job : Job) (before : List ℕ) (circuit : Circuit) (b : Position) (did : Result (Unit {0}) WriteFault) → IsBigJob n job → IsJob job → before ≡ heading n job.products → circuit ≡ job.circuit → IsCarriedOut job b → ((table : List Given) → IsComplete circuit b table → WritesText w (before ++ bits_shown circuit table) did) → Attempt r w (big n k) did
big_attempt r w n k job before circuit b did made kept head same done writes = (
  summary n job,
  (job, made, refl),
  of_job (λ (d : Circuit). WritesText w (heading n job.products ++ bits_shown d job.outcomes.given) did) job circuit b kept same done
      (λ x. subst (λ (t : List ℕ). WritesText w (t ++ bits_shown circuit job.outcomes.given) did) head (writes job.outcomes.given x)),
)

pub side_attempt : (r : Shelved) (w : Writing) (l : List ℕ) (k : ℕ) (names : List (List ℕ)) (job : Job) (circuit : Circuit) (b : Position) (did : Result (Unit {0}) WriteFault) → CompleteBoardsAreSchedules → ClaimsAreThoseAlone → RegistersAreThoseAlone → IsSideJob r l names job → circuit ≡ job.circuit → IsCarriedOut job b → ((table : List Given) → IsComplete circuit b table → WritesText w (schedule_of circuit table b.history) did) → Attempt r w (side l k names) did
side_attempt r w l k names job circuit b did law claims registers x same done writes =
    let text = schedule_of job.circuit job.outcomes.given b.history in (
      text,
      (x.sides, x.stand, side_schedule claims registers x.sides text x.programs x.stand.all (subst (λ (j : Job). IsRunSchedule j text) x.is (run_schedule law job b x.kept done))),
      of_job (λ (d : Circuit). WritesText w (schedule_of d job.outcomes.given b.history) did) job circuit b x.kept same done (writes job.outcomes.given),
    )

-- ---- errors of known kinds
pub done_job : (end : Result (Unit {0}) RunFault) (f : JobFault) → IsErrAnd end (λ e. e ≡ fault.Job f) → job_faults.IsOutside f → IsDone end
done_job (Ok done) f is h = absurd is
done_job (Err e) f is h = subst IsOutside (sym is) h

is_outside : (f : WriteFault) → IsOutside (fault_of_write f)
is_outside write.Memory = tt
is_outside write.Failed = tt

pub done_write : (end : Result (Unit {0}) RunFault) (f : WriteFault) → IsErrAnd end (λ e. e ≡ fault_of_write f) → IsDone end
done_write (Ok done) f is = absurd is
done_write (Err e) f is = subst IsOutside (sym is) (is_outside f)
