-- What reading programs side by side says, stage by stage.
use Rattle.std.specs.Prelude.{◌≡◌, ℕ, ◌≤◌, List, All, Some, length, slice_get}
use Rattle.source_model.specs.declared.Circuit.{Circuit}
use Rattle.source_model.specs.Circuits.{RightKinds}
use Rattle.patch_layout.specs.Grid.{Grid}
use Rattle.outcome_table.specs.declared.Outcomes.{Outcomes}
use Rattle.job_read.specs.declared.Job.{Job}
use Rattle.job_read.specs.declared.fault.JobFault.{JobFault}
use Rattle.job_read.specs.Jobs.{CircuitStops}
use Rattle.job_read.specs.Kept.{IsJob}
use Rattle.job_read.specs.Shelves.{Shelved, seen_on}
use Rattle.side_by_side.specs.Programs.{IsProgram}
use Rattle.run_top.specs.declared.fault.RunFault.{RunFault}
use Rattle.run_top.specs.declared.fault.RunFault.TheVariants as fault
use Rattle.run_top.specs.Sides.{Sides, StandForSides, circuit_at, joined_job, outcomes_at, programs_of}
use Rattle.run_top.specs.SideFaults.{AreTooMany, StopsAtCircuit, StopsAtOutcomes, TableStops}

-- ---- one program
-- a fault of the circuit of program i
abbrev pub StopsOne : Shelved → List (List ℕ) → ℕ → RunFault → Type 0
StopsOne r names i e = (f : JobFault) × (e ≡ fault.Program i f) × CircuitStops (seen_on r (circuit_at names i)) f

-- a fault of the outcomes of program i
abbrev pub StopsTable : Shelved → List (List ℕ) → ℕ → Circuit → Grid → RunFault → Type 0
StopsTable r names i c g e = (f : JobFault) × (e ≡ fault.Program i f) × TableStops (seen_on r (outcomes_at names i)) i c g f

-- the outcomes are of the kinds of the circuit's products
pub record IsTableOf (c : Circuit) (o : Outcomes) : Type 0 where
  pub kinds : RightKinds c.items o.given
  pub few : length o.fails ≤ 4096

abbrev pub AreTablesFor : List Circuit → List Outcomes → Type 0
AreTablesFor cs os = (i : ℕ) (c : Circuit) (o : Outcomes) → slice_get cs i ≡ Some c → slice_get os i ≡ Some o → IsTableOf c o

-- ---- all programs
abbrev pub CircuitsStop : Shelved → List (List ℕ) → RunFault → Type 0
CircuitsStop r names (fault.Program i f) = StopsAtCircuit r names i f
CircuitsStop r names fault.Memory = Unit {0}
CircuitsStop r names _ = ⊥

abbrev pub JoinStops : List Circuit → RunFault → Type 0
JoinStops cs (fault.Job f) = AreTooMany cs f
JoinStops cs fault.Memory = Unit {0}
JoinStops cs _ = ⊥

abbrev pub TablesStop : Shelved → List (List ℕ) → List Circuit → Grid → RunFault → Type 0
TablesStop r names cs g (fault.Program i f) = StopsAtOutcomes r names cs g i f
TablesStop r names cs g fault.Memory = Unit {0}
TablesStop r names cs g _ = ⊥

-- the joined job of what the texts stand for
pub record IsSideJob (r : Shelved) (l : List ℕ) (names : List (List ℕ)) (job : Job) : Type 0 where
  pub sides : Sides
  pub stand : StandForSides r l names sides
  pub is : job ≡ joined_job sides
  pub programs : All IsProgram (programs_of sides.circuits sides.tables)
  pub kept : IsJob job
