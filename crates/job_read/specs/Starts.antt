-- The board of a job.
use Rattle.std.specs.Prelude.{[]}
use Rattle.board_core.specs.Headline.{job_of}
use Rattle.board_core.specs.Legal.{BoardJob}
use Rattle.board_core.specs.Position.{Position}
use Rattle.job_read.specs.declared.Job.{Job}

-- a board's job of what was read
abbrev pub board_job : Job → BoardJob
board_job job = job_of job.circuit.items job.layout job.outcomes.fails

-- nothing happened on it yet
abbrev pub new_position : BoardJob → Position
new_position j = record { job = j; history = [] }
