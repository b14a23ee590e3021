-- What `serial` and `least` write.
use Rattle.std.specs.Prelude.{◌≡◌, ℕ, List, [], ◌∷◌, flat_map, take, slice_get, Option, Some}
use Rattle.std.specs.List.Sorted.{IsStrictlyIncreasing}
use Rattle.pauli_product.specs.Signed.{Signed}
use Rattle.patch_layout.specs.declared.look.Look.{Look}
use Rattle.region_plan.specs.Answer.{LeastJoined}
use Rattle.least_region.specs.Least.{LeastOrJoined}
use Rattle.board_core.specs.declared.Noted.{Noted}
use Rattle.board_core.specs.declared.Entry.{Entry}
use Rattle.board_core.specs.declared.Entry.TheVariants.{Claim, Deliver, Release, Step, Settle}
use Rattle.board_core.specs.History.{History, entries}
use Rattle.board_core.specs.Legal.{BoardJob}
use Rattle.board_core.specs.Shows.{Shows}
use Rattle.finish_run.specs.Next.{Meeting}
use Rattle.schedule_text.specs.Written.{IsSchedule, AllBy}
use Rattle.job_read.specs.declared.Job.{Job}
use Rattle.job_read.specs.Starts.{board_job}

abbrev pub claims_in : Entry → List ℕ
claims_in (Claim p axis port state cells) = p ∷ []
claims_in (Deliver p g) = []
claims_in (Release p) = []
claims_in (Step f) = []
claims_in (Settle p flip) = []

-- the products are claimed in ascending order
abbrev pub ClaimsAscend : History → Type 0
ClaimsAscend h = IsStrictlyIncreasing (flat_map claims_in h)

-- the region meets the relation for a look at the product after a history
abbrev pub MeetsBehind : Meeting → BoardJob → List Noted → ℕ → Option ℕ → List ℕ → Type 0
MeetsBehind Meets j h p port cells =
    (look : Look) × Shows (record { job = j; history = h }) p look × Meets j.grid look port cells

-- so does each claimed region
abbrev pub RegionsMeet : Meeting → BoardJob → List Noted → Type 0
RegionsMeet Meets j h =
    (n by p : ℕ) (axis : Signed) (port state : Option ℕ) (cells : List ℕ)
    → slice_get h n ≡ Some (record { by = by; entry = Claim p axis port state cells })
    → MeetsBehind Meets j (take n h) p port cells

-- the text is that of one legal history of the job, with the source's bits for its outcomes; worker 0 made
-- all entries, products are claimed in ascending order, and each region meets the relation
pub record IsScheduleBy (Meets : Meeting) (job : Job) (text : List ℕ) : Type 0 where
  pub schedule : IsSchedule job.circuit.items job.circuit.registers job.layout job.outcomes.fails job.outcomes.given text
  pub worker : AllBy 0 schedule.history
  pub ascending : ClaimsAscend (entries schedule.history)
  pub regions : RegionsMeet Meets (board_job job) schedule.history

-- each region is joined side by side in the cells that are free at its place, each time by the least number
-- of cells, from the least first cell that serves, and through the least port that serves
abbrev pub IsSerialSchedule : Job → List ℕ → Type 0
IsSerialSchedule job text = IsScheduleBy LeastJoined job text

-- each region of at most six sides has the least number of cells of all that fit in the cells that are free
-- at its place, and a wider one is joined as by `serial`
abbrev pub IsLeastSchedule : Job → List ℕ → Type 0
IsLeastSchedule job text = IsScheduleBy LeastOrJoined job text
