-- What three texts stand for, and why they are refused.
use Rattle.std.specs.Prelude.{◌≡◌, ◌⊎◌, ℕ, List}
use Rattle.source_model.specs.declared.Circuit.{Circuit}
use Rattle.source_model.specs.Statics.{statics}
use Rattle.patch_layout.specs.Grid.{Grid}
use Rattle.job_read.specs.declared.Job.{Job}
use Rattle.job_read.specs.declared.fault.JobFault.{JobFault}
use Rattle.job_read.specs.declared.fault.JobFault.TheVariants as fault
use Rattle.job_read.specs.Reading.{Seen, Reading, Failed, IsNamed, IsTold}
use Rattle.job_read.specs.Stages.{CircuitStands, CircuitRefused, LayoutStands, LayoutRefused, OutcomesStand, OutcomesRefused}

-- ---- accepted texts

-- the circuit's text stands for the job's circuit, the layout is open for it, and the outcomes' text stands for outcomes of its products
pub record StandsForJob (r : Reading) (job : Job) : Type 0 where
  pub circuit : CircuitStands r.circuit job.circuit
  pub products : job.products ≡ statics job.circuit.items
  pub layout : LayoutStands r.word r.layout job.circuit job.layout
  pub outcomes : OutcomesStand r.outcomes job.circuit job.layout job.outcomes

-- ---- refused texts

-- the circuit is accepted, and of it this holds
abbrev pub BehindCircuit : Reading → (Circuit → Type 0) → Type 0
BehindCircuit r P = (c : Circuit) × CircuitStands r.circuit c × P c

-- the circuit and the layout are accepted, and of them this holds
abbrev pub BehindLayout : Reading → (Circuit → Grid → Type 0) → Type 0
BehindLayout r P = BehindCircuit r (λ c. (g : Grid) × LayoutStands r.word r.layout c g × P c g)

-- a text is refused with this fault, and those before it are accepted
abbrev pub Refuses : Reading → JobFault → Type 0
Refuses r (fault.Read which) = ⊥
Refuses r (fault.Circuit f) = CircuitRefused r.circuit f
Refuses r (fault.Layout f) = BehindCircuit r (λ c. LayoutRefused r.word r.layout c f)
Refuses r (fault.Outcomes f) = BehindLayout r (λ c g. OutcomesRefused r.outcomes c g f)
Refuses r fault.Memory = ⊥

-- the name of the text of this number failed, and the texts before it are accepted: 0 is the circuit, 1 the layout, 2 the outcomes
abbrev pub IsUnread : Reading → ℕ → Type 0
IsUnread r which =
    ((which ≡ 0) × Failed r.circuit)
    ⊎ ((which ≡ 1) × BehindCircuit r (λ c. IsNamed r.word × Failed r.layout))
    ⊎ ((which ≡ 2) × BehindLayout r (λ c g. Failed r.outcomes))

-- the cause of each fault; want of memory has none
abbrev pub Because : Reading → JobFault → Type 0
Because r (fault.Read which) = IsUnread r which
Because r (fault.Circuit f) = Refuses r (fault.Circuit f)
Because r (fault.Layout f) = Refuses r (fault.Layout f)
Because r (fault.Outcomes f) = Refuses r (fault.Outcomes f)
Because r fault.Memory = Unit {0}

-- the shelf failed, or memory is wanting
abbrev pub IsOutside : JobFault → Type 0
IsOutside (fault.Read which) = Unit {0}
IsOutside (fault.Circuit f) = ⊥
IsOutside (fault.Layout f) = ⊥
IsOutside (fault.Outcomes f) = ⊥
IsOutside fault.Memory = Unit {0}

-- ---- the texts that are told

-- the layout has no text, or it is told
abbrev pub LayoutTold : Reading → Type 0
LayoutTold r = IsNamed r.word → IsTold r.layout

-- the texts up to the one that a fault is of are told
abbrev pub TellsUpTo : Reading → JobFault → Type 0
TellsUpTo r (fault.Read which) = Unit {0}
TellsUpTo r (fault.Circuit f) = IsTold r.circuit
TellsUpTo r (fault.Layout f) = IsTold r.circuit × LayoutTold r
TellsUpTo r (fault.Outcomes f) = IsTold r.circuit × LayoutTold r × IsTold r.outcomes
TellsUpTo r fault.Memory = Unit {0}

-- all texts are told
abbrev pub TellsAll : Reading → Type 0
TellsAll r = IsTold r.circuit × LayoutTold r × IsTold r.outcomes

-- ---- single texts

-- why the circuit's text alone isn't accepted
abbrev pub CircuitStops : Seen → JobFault → Type 0
CircuitStops s (fault.Read which) = (which ≡ 0) × Failed s
CircuitStops s (fault.Circuit f) = CircuitRefused s f
CircuitStops s (fault.Layout f) = ⊥
CircuitStops s (fault.Outcomes f) = ⊥
CircuitStops s fault.Memory = Unit {0}

-- why the layout alone isn't accepted for a circuit
abbrev pub LayoutStops : List ℕ → Seen → Circuit → JobFault → Type 0
LayoutStops word s c (fault.Read which) = (which ≡ 1) × IsNamed word × Failed s
LayoutStops word s c (fault.Circuit f) = ⊥
LayoutStops word s c (fault.Layout f) = LayoutRefused word s c f
LayoutStops word s c (fault.Outcomes f) = ⊥
LayoutStops word s c fault.Memory = Unit {0}

-- why the outcomes' text alone isn't accepted for a circuit and a layout
abbrev pub OutcomesStop : Seen → Circuit → Grid → JobFault → Type 0
OutcomesStop s c g (fault.Read which) = (which ≡ 2) × Failed s
OutcomesStop s c g (fault.Circuit f) = ⊥
OutcomesStop s c g (fault.Layout f) = ⊥
OutcomesStop s c g (fault.Outcomes f) = OutcomesRefused s c g f
OutcomesStop s c g fault.Memory = Unit {0}
