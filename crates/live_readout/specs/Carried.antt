-- A job that was carried out live.
use Rattle.std.specs.Prelude.{ℕ, ◌≤◌, List, All}
use Rattle.board_core.specs.declared.Noted.{Noted}
use Rattle.schedule_text.specs.Written.{IsSchedule}
use Rattle.job_read.specs.declared.Job.{Job}

-- workers 0 to 33 made all entries: up to 16 routers and 16 makers, one deliverer, and 0, which brings the board to its end
abbrev pub AreByLiveWorkers : List Noted → Type 0
AreByLiveWorkers h = All (λ n. n.by ≤ 33) h

-- the text is that of one legal history of the job, with the source's bits for its outcomes
pub record IsLiveSchedule (job : Job) (text : List ℕ) : Type 0 where
  pub schedule : IsSchedule job.circuit.items job.circuit.registers job.layout job.outcomes.fails job.outcomes.given text
  pub workers : AreByLiveWorkers schedule.history
