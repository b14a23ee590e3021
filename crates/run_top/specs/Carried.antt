-- A job that routers carried out.
use Rattle.std.specs.Prelude.{ℕ, ◌≤◌, List, All}
use Rattle.board_core.specs.declared.Noted.{Noted}
use Rattle.schedule_text.specs.Written.{IsSchedule}
use Rattle.job_read.specs.declared.Job.{Job}

-- workers 0 to 32 made all entries: up to 16 routers and 16 makers, and 0, which brings the board to its end
abbrev pub AreByWorkers : List Noted → Type 0
AreByWorkers h = All (λ n. n.by ≤ 32) h

-- the text is that of one legal history of the job, with the source's bits for its outcomes
pub record IsRunSchedule (job : Job) (text : List ℕ) : Type 0 where
  pub schedule : IsSchedule job.circuit.items job.circuit.registers job.layout job.outcomes.fails job.outcomes.given text
  pub workers : AreByWorkers schedule.history
