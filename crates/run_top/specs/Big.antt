-- What `big` writes.
use Rattle.std.specs.Prelude.{ℕ, List, [], ◌++◌, codes, count_by, length}
use Rattle.source_model.specs.declared.Static.{Static}
use Rattle.rotation_list.specs.Needs.{is_rotation}
use Rattle.fault_lines.specs.Lines.{numbered}
use Rattle.board_write.specs.Boards.{bits_shown}
use Rattle.job_read.specs.declared.Job.{Job}
use Rattle.job_read.specs.Made.{IsBigJob}

-- a job is made from the number, and of it this holds
abbrev pub OnBig : ℕ → (Job → Type 0) → Type 0
OnBig n P = (job : Job) × IsBigJob n job × P job

-- the number, and how many products and rotations there are
abbrev pub heading : ℕ → List Static → List ℕ
heading n products =
    numbered (codes "big ") n [] ++ numbered (codes "products ") (length products) [] ++ numbered (codes "rotations ") (count_by is_rotation products) []

-- these lines, and the bits that the circuit's own run leaves
abbrev pub summary : ℕ → Job → List ℕ
summary n job = heading n job.products ++ bits_shown job.circuit job.outcomes.given
