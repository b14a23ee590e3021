-- What is read by name from a shelf, where a call sees it as a whole.
use Rattle.std.specs.Prelude.{ℕ, List, Option}
use Rattle.source_model.specs.declared.Circuit.{Circuit}
use Rattle.patch_layout.specs.Grid.{Grid}
use Rattle.job_read.specs.declared.Job.{Job}
use Rattle.job_read.specs.Reading.{Seen, Reading, seen, reading}
use Rattle.job_read.specs.Stages.{CircuitStands, LayoutStands}
use Rattle.job_read.specs.Jobs.{StandsForJob}

-- the shelf: the bytes that it tells by name, and its counts of faults before and after the call
pub record Shelved : Type 0 where
  pub tells : List ℕ → Option (List ℕ)
  pub before : List ℕ → ℕ
  pub after : List ℕ → ℕ

-- a shelf before and after a call, which tells the same bytes
abbrev pub shelved : {S : Type 0} → (S → List ℕ → Option (List ℕ)) → (S → List ℕ → ℕ) → S → S → Shelved
shelved tells faults old new = record { tells = tells old; before = faults old; after = faults new }

-- one name on it
abbrev pub seen_on : Shelved → List ℕ → Seen
seen_on r name = seen r.tells r.before r.after name

-- the names of a job's texts
abbrev pub job_on : Shelved → List ℕ → List ℕ → List ℕ → Reading
job_on r circuit layout outcomes = reading r.tells r.before r.after circuit layout outcomes

-- ---- what is read

-- the circuit is accepted, and of it this holds
abbrev pub OnCircuit : Shelved → List ℕ → (Circuit → Type 0) → Type 0
OnCircuit r c P = (circuit : Circuit) × CircuitStands (seen_on r c) circuit × P circuit

-- the circuit and the layout are accepted, and of the layout this holds
abbrev pub OnLayout : Shelved → List ℕ → List ℕ → (Grid → Type 0) → Type 0
OnLayout r c l P = OnCircuit r c (λ circuit. (grid : Grid) × LayoutStands l (seen_on r l) circuit grid × P grid)

-- the job is accepted, and of it this holds
abbrev pub OnJob : Shelved → List ℕ → List ℕ → List ℕ → (Job → Type 0) → Type 0
OnJob r c l o P = (job : Job) × StandsForJob (job_on r c l o) job × P job
