-- A schedule's text read on the new board of a job.
use Rattle.std.specs.Prelude.{◌≡◌, ℕ, ◌<◌, List, length}
use Rattle.board_core.specs.History.{entries}
use Rattle.board_core.specs.Legal.{Complete}
use Rattle.board_core.specs.Position.{with_history}
use Rattle.schedule_text.specs.Text.{Version}
use Rattle.history_replay.specs.Replay.{IsTextOf, FirstBadLine}
use Rattle.job_read.specs.declared.Job.{Job}
use Rattle.job_read.specs.Starts.{board_job, new_position}
use Rattle.job_read.specs.Kept.{IsJob}
use Rattle.job_read.specs.Reading.{Failed}
use Rattle.job_read.specs.Jobs.{StandsForJob, Because}
use Rattle.tool_top.specs.declared.fault.ToolFault.{ToolFault}
use Rattle.tool_top.specs.declared.fault.ToolFault.TheVariants as fault
use Rattle.tool_top.specs.declared.schedule.Replayed.{Replayed}
use Rattle.job_read.specs.Shelves.{Shelved, seen_on, job_on, OnJob}
use Rattle.tool_top.specs.Schedules.{asked_of, IsShort, ScheduleStands, ScheduleLong, ScheduleBad}

-- the board has a history of which this is the text
pub record IsReplayedOn (job : Job) (text : List ℕ) (x : Replayed) : Type 0 where
  pub circuit : x.circuit ≡ job.circuit
  pub board : x.board ≡ with_history (new_position (board_job job)) x.board.history
  pub short : IsShort text
  pub version : Version
  pub is_text : IsTextOf (asked_of job) text version x.board.history

-- why a text isn't that of a history of the job
abbrev pub StopsReplaying : Job → List ℕ → ToolFault → Type 0
StopsReplaying job text fault.ScheduleTooLong = 67108864 < length text
StopsReplaying job text (fault.ScheduleIllegal line) = IsShort text × FirstBadLine (asked_of job) text line
StopsReplaying job text fault.Memory = Unit {0}
StopsReplaying job text (fault.Job f) = ⊥
StopsReplaying job text fault.ScheduleUnread = ⊥
StopsReplaying job text fault.Unwritten = ⊥

-- the job and its schedule are accepted, and the board has the schedule's history
pub record IsReplayed (r : Shelved) (c l o s : List ℕ) (x : Replayed) : Type 0 where
  pub job : Job
  pub stands : StandsForJob (job_on r c l o) job
  pub kept : IsJob job
  pub circuit : x.circuit ≡ job.circuit
  pub board : x.board ≡ with_history (new_position (board_job job)) x.board.history
  pub version : Version
  pub schedule : ScheduleStands (seen_on r s) job version x.board.history
  pub complete : Complete (board_job job) (entries x.board.history) job.outcomes.given

-- why no schedule is read
abbrev pub StopsReading : Shelved → List ℕ → List ℕ → List ℕ → List ℕ → ToolFault → Type 0
StopsReading r c l o s (fault.Job f) = Because (job_on r c l o) f
StopsReading r c l o s fault.ScheduleUnread = OnJob r c l o (λ job. Failed (seen_on r s))
StopsReading r c l o s fault.ScheduleTooLong = OnJob r c l o (λ job. ScheduleLong (seen_on r s))
StopsReading r c l o s (fault.ScheduleIllegal line) = OnJob r c l o (λ job. ScheduleBad (seen_on r s) job line)
StopsReading r c l o s fault.Memory = Unit {0}
StopsReading r c l o s fault.Unwritten = ⊥
