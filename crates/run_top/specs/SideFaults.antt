-- Why programs side by side aren't carried out.
use Rattle.std.specs.Prelude.{◌≡◌, ◌⊎◌, ℕ, ◌+◌, ◌*◌, ◌<◌, List, Some, length, slice_get}
use Rattle.source_model.specs.declared.Circuit.{Circuit}
use Rattle.patch_layout.specs.Grid.{Grid}
use Rattle.qasm_lex.specs.declared.fault.CircuitFault.TheVariants as circuit_fault
use Rattle.qasm_lex.specs.declared.fault.FaultKind.TheVariants as kind
use Rattle.outcome_table.specs.declared.Outcomes.{Outcomes}
use Rattle.job_read.specs.declared.fault.JobFault.{JobFault}
use Rattle.job_read.specs.declared.fault.JobFault.TheVariants as job
use Rattle.job_read.specs.Jobs.{CircuitStops, LayoutStops}
use Rattle.job_read.specs.Reading.{Failed, IsNamed, IsTold, Seen}
use Rattle.job_read.specs.Shelves.{Shelved, seen_on}
use Rattle.side_by_side.specs.Joined.{IsWithin, joined_circuit, sums_of}
use Rattle.run_top.specs.declared.fault.RunFault.{RunFault}
use Rattle.run_top.specs.declared.fault.RunFault.TheVariants as fault
use Rattle.run_top.specs.Sides.{AreCircuits, AreOnLayout, CircuitsStand, TableRefused, TablesStand, circuit_at, outcomes_at}

-- ---- a text of one program
-- why the outcomes of program i alone aren't accepted
abbrev pub TableStops : Seen → ℕ → Circuit → Grid → JobFault → Type 0
TableStops s i c g (job.Read which) = (which ≡ 2) × Failed s
TableStops s i c g (job.Outcomes f) = TableRefused s i c g f
TableStops s i c g job.Memory = Unit {0}
TableStops s i c g f = ⊥

-- the circuit of program i, where those before it stand
abbrev pub StopsAtCircuit : Shelved → List (List ℕ) → ℕ → JobFault → Type 0
StopsAtCircuit r names i f = (2 * i < length names)
    × ((cs : List Circuit) × CircuitsStand r names cs × (length cs ≡ i) × CircuitStops (seen_on r (circuit_at names i)) f)

-- the outcomes of program i, where those before them stand
abbrev pub StopsAtOutcomes : Shelved → List (List ℕ) → List Circuit → Grid → ℕ → JobFault → Type 0
StopsAtOutcomes r names cs g i f = (os : List Outcomes) × (c : Circuit) × TablesStand r names cs g os × (length os ≡ i)
    × (slice_get cs i ≡ Some c) × TableStops (seen_on r (outcomes_at names i)) i c g f

-- the same, where the circuits and the layout stand
abbrev pub StopsAtTable : Shelved → List ℕ → List (List ℕ) → ℕ → JobFault → Type 0
StopsAtTable r l names i f = (cs : List Circuit) × (g : Grid) × AreOnLayout r l names cs g × StopsAtOutcomes r names cs g i f

-- ---- what is of all programs
-- the joined circuit passes a limit
abbrev pub AreTooMany : List Circuit → JobFault → Type 0
AreTooMany cs f = (f ≡ job.Circuit (circuit_fault.At 0 kind.TooMany)) × (IsWithin (sums_of cs) → ⊥)

-- or the layout isn't open for it
abbrev pub StopsAtJoined : Shelved → List ℕ → List (List ℕ) → JobFault → Type 0
StopsAtJoined r l names f = (cs : List Circuit) × AreCircuits r names cs
    × (AreTooMany cs f ⊎ (IsWithin (sums_of cs) × LayoutStops l (seen_on r l) (joined_circuit cs) f))

-- the first text that can't be read or is refused, or a limit that is passed; out of memory has no cause
abbrev pub StopsAtSides : Shelved → List ℕ → List (List ℕ) → RunFault → Type 0
StopsAtSides r l names (fault.Program i f) = StopsAtCircuit r names i f ⊎ StopsAtTable r l names i f
StopsAtSides r l names (fault.Job f) = StopsAtJoined r l names f
StopsAtSides r l names fault.Unwritten = ⊥
StopsAtSides r l names fault.Memory = Unit {0}

-- ---- texts that are told
-- the circuits among the first n names
abbrev pub CircuitsTold : Shelved → List (List ℕ) → ℕ → Type 0
CircuitsTold r names n = (i : ℕ) → 2 * i < n → IsTold (seen_on r (circuit_at names i))

-- the outcomes among the first n names
abbrev pub TablesTold : Shelved → List (List ℕ) → ℕ → Type 0
TablesTold r names n = (i : ℕ) → 2 * i + 1 < n → IsTold (seen_on r (outcomes_at names i))

-- all circuits, and the layout where it has a text
abbrev pub LayoutTold : Shelved → List ℕ → List (List ℕ) → Type 0
LayoutTold r l names = CircuitsTold r names (length names) × (IsNamed l → IsTold (seen_on r l))

-- the texts up to the one that a fault is of
abbrev pub TellSides : Shelved → List ℕ → List (List ℕ) → RunFault → Type 0
TellSides r l names (fault.Program i (job.Circuit f)) = CircuitsTold r names (2 * i + 1)
TellSides r l names (fault.Program i (job.Outcomes f)) = LayoutTold r l names × TablesTold r names (2 * i + 2)
TellSides r l names (fault.Job (job.Circuit f)) = CircuitsTold r names (length names)
TellSides r l names (fault.Job (job.Layout f)) = LayoutTold r l names
TellSides r l names f = Unit {0}

-- all of them
abbrev pub TellAllSides : Shelved → List ℕ → List (List ℕ) → Type 0
TellAllSides r l names = LayoutTold r l names × TablesTold r names (length names)
