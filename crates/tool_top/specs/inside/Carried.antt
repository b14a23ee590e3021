-- The board of a job, brought to its end.
use Rattle.std.specs.Prelude.{◌≡◌}
use Rattle.board_core.specs.Legal.{Complete}
use Rattle.board_core.specs.Position.{Position, past, IsLegal}
use Rattle.finish_run.specs.Next.{Meeting}
use Rattle.finish_run.specs.Finished.{GoesOn}
use Rattle.job_read.specs.declared.Job.{Job}
use Rattle.job_read.specs.Starts.{board_job, new_position}

-- the job's board, brought from a new one to its end by a planner whose regions meet the relation
pub record IsBroughtToEnd (Meets : Meeting) (job : Job) (b : Position) : Type 0 where
  pub job_is : b.job ≡ board_job job
  pub legal : IsLegal b
  pub complete : Complete (board_job job) (past b) job.outcomes.given
  pub goes : GoesOn Meets job.outcomes.given (new_position (board_job job)) b
