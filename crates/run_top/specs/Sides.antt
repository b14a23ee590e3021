-- Programs side by side on a shelf: what their texts stand for.
use Rattle.std.specs.Prelude.{◌≡◌, ◌≢◌, ℕ, ◌+◌, ◌*◌, ◌==◌, if◌then◌else◌, List, [], ◌∷◌, length, flat_map, slice_get, slice_index_or, Some, IfSome}
use Rattle.source_model.specs.declared.Circuit.{Circuit}
use Rattle.source_model.specs.Circuits.{kinds}
use Rattle.source_model.specs.Statics.{statics}
use Rattle.patch_layout.specs.Grid.{Grid}
use Rattle.magic_pool.specs.declared.Fail.{Fail}
use Rattle.outcome_table.specs.declared.Outcomes.{Outcomes}
use Rattle.outcome_table.specs.declared.fault.OutcomeFault.{OutcomeFault}
use Rattle.outcome_table.specs.declared.fault.OutcomeFault.TheVariants as outcome_fault
use Rattle.outcome_table.specs.OutcomeText as tables
use Rattle.outcome_table.specs.OutcomeText.{Asked}
use Rattle.job_read.specs.declared.Job.{Job}
use Rattle.job_read.specs.Reading.{Seen}
use Rattle.job_read.specs.Shelves.{Shelved, seen_on}
use Rattle.job_read.specs.Stages.{CircuitStands, LayoutStands, factories_in}
use Rattle.side_by_side.specs.Joined.{IsWithin, joined_circuit, joined_items, sums_of}
use Rattle.side_by_side.specs.Programs.{Program}

-- ---- the names of their texts, two for each program
abbrev pub circuit_at : List (List ℕ) → ℕ → List ℕ
circuit_at names i = slice_index_or names (2 * i) []

abbrev pub outcomes_at : List (List ℕ) → ℕ → List ℕ
outcomes_at names i = slice_index_or names (2 * i + 1) []

-- ---- circuits
-- the text of each of the first programs stands for its circuit
abbrev pub CircuitsStand : Shelved → List (List ℕ) → List Circuit → Type 0
CircuitsStand r names cs = (i : ℕ) (c : Circuit) → slice_get cs i ≡ Some c → CircuitStands (seen_on r (circuit_at names i)) c

-- these are the circuits of all programs
pub record AreCircuits (r : Shelved) (names : List (List ℕ)) (cs : List Circuit) : Type 0 where
  pub all : 2 * length cs ≡ length names
  pub stand : CircuitsStand r names cs

-- the circuits of all programs may be joined, and the layout is open for the joined one
pub record AreOnLayout (r : Shelved) (l : List ℕ) (names : List (List ℕ)) (cs : List Circuit) (g : Grid) : Type 0 where
  pub circuits : AreCircuits r names cs
  pub within : IsWithin (sums_of cs)
  pub layout : LayoutStands l (seen_on r l) (joined_circuit cs) g

-- ---- outcomes
-- what the outcomes of program i are read for: its own products, and the layout's factories for program 0 alone
abbrev pub asked_of : ℕ → Circuit → Grid → Asked
asked_of i c g = record { kinds = kinds c.items; factories = if i == 0 then factories_in g.sites else [] }

-- the told text stands for these outcomes of program i
abbrev pub TableStands : Seen → ℕ → Circuit → Grid → Outcomes → Type 0
TableStands s i c g o = IfSome s.told (λ text. tables.StandsFor (asked_of i c g) text o.given o.fails)

-- it is refused with this fault; out of memory is none
abbrev pub TableRefused : Seen → ℕ → Circuit → Grid → OutcomeFault → Type 0
TableRefused s i c g f = (f ≢ outcome_fault.Memory) × IfSome s.told (λ text. tables.Refuses (asked_of i c g) text f)

-- the text of each of the first programs stands for its outcomes
abbrev pub TablesStand : Shelved → List (List ℕ) → List Circuit → Grid → List Outcomes → Type 0
TablesStand r names cs g os = (i : ℕ) (c : Circuit) (o : Outcomes) → slice_get cs i ≡ Some c → slice_get os i ≡ Some o →
    TableStands (seen_on r (outcomes_at names i)) i c g o

-- ---- all of them
-- circuits with their outcomes
abbrev pub programs_of : List Circuit → List Outcomes → List Program
programs_of [] os = []
programs_of (c ∷ cs) [] = []
programs_of (c ∷ cs) (o ∷ os) = record { circuit = c; outcomes = o.given } ∷ programs_of cs os

-- the failing runs of the first
abbrev pub first_fails : List Outcomes → List Fail
first_fails [] = []
first_fails (o ∷ os) = o.fails

-- the circuits of programs, a layout, and the outcomes of each
pub record Sides : Type 0 where
  pub circuits : List Circuit
  pub layout : Grid
  pub tables : List Outcomes

-- as one job
abbrev pub joined_job : Sides → Job
joined_job s = record {
  circuit = joined_circuit s.circuits;
  products = statics (joined_items s.circuits);
  layout = s.layout;
  outcomes = record { given = flat_map (λ o. o.given) s.tables; fails = first_fails s.tables };
}

-- the texts stand for these
pub record StandForSides (r : Shelved) (l : List ℕ) (names : List (List ℕ)) (s : Sides) : Type 0 where
  pub on : AreOnLayout r l names s.circuits s.layout
  pub all : length s.tables ≡ length s.circuits
  pub tables : TablesStand r names s.circuits s.layout s.tables
