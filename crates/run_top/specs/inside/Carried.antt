-- The board of a job that routers carried out.
use Rattle.std.specs.Prelude.{◌≡◌}
use Rattle.board_core.specs.Legal.{Complete}
use Rattle.board_core.specs.Position.{Position, past, IsLegal}
use Rattle.job_read.specs.declared.Job.{Job}
use Rattle.job_read.specs.Starts.{board_job}
use Rattle.run_top.specs.Carried.{AreByWorkers}

-- the job's board, whose products are all done
pub record IsCarriedOut (job : Job) (b : Position) : Type 0 where
  pub job_is : b.job ≡ board_job job
  pub legal : IsLegal b
  pub complete : Complete (board_job job) (past b) job.outcomes.given
  pub workers : AreByWorkers b.history
