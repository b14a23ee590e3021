-- What is read of a schedule's text against a job, and what the commands that read one write.
use Rattle.std.specs.Prelude.{ℕ, ◌<◌, ◌≤◌, List, length, codes, IfSome}
use Rattle.source_model.specs.SourceRun.{bit_after}
use Rattle.board_core.specs.declared.Noted.{Noted}
use Rattle.board_core.specs.History.{entries}
use Rattle.schedule_text.specs.Text.{Version, text_of, two}
use Rattle.slice_write.specs.Slices.{sliced}
use Rattle.slice_write.specs.Pictures.{slices_text}
use Rattle.history_replay.specs.Replay.{Question, IsTextOf, FirstBadLine, asked}
use Rattle.job_read.specs.declared.Job.{Job}
use Rattle.job_read.specs.Starts.{board_job}
use Rattle.job_read.specs.Reading.{Seen}

-- a legal complete history of the job, with the bits that its outcomes leave
abbrev pub asked_of : Job → Question
asked_of job = asked job.circuit (board_job job) job.outcomes.given

-- at most 64 MiB
abbrev pub IsShort : List ℕ → Type 0
IsShort text = length text ≤ 67108864

-- the told text is that of this history, in this version
abbrev pub ScheduleStands : Seen → Job → Version → List Noted → Type 0
ScheduleStands s job v h = IfSome s.told (λ text. IsShort text × IsTextOf (asked_of job) text v h)

abbrev pub ScheduleLong : Seen → Type 0
ScheduleLong s = IfSome s.told (λ text. 67108864 < length text)

-- this line of the told text is its first bad one
abbrev pub ScheduleBad : Seen → Job → ℕ → Type 0
ScheduleBad s job line = IfSome s.told (λ text. IsShort text × FirstBadLine (asked_of job) text line)

-- ---- what is written

-- that it is legal
abbrev pub verdict : List ℕ
verdict = codes "legal\n"

-- its slices, with pictures
abbrev pub slices_shown : Job → List Noted → List ℕ
slices_shown job h = slices_text job.layout (sliced (board_job job) (entries h))

-- the schedule in version 2, with the passes of its entries
abbrev pub migrated : Job → List Noted → List ℕ
migrated job h = text_of two h job.circuit.registers (bit_after job.circuit.items job.outcomes.given)
