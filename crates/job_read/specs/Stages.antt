-- What each text of a job stands for, behind those before it, and why it is refused.
use Rattle.std.specs.Prelude.{◌≡◌, ◌≢◌, ◌⊎◌, ℕ, List, [], ◌∷◌, map, min, IfSome}
use Rattle.std.specs.List.{list_any, range_with_len}
use Rattle.source_model.specs.declared.Circuit.{Circuit}
use Rattle.source_model.specs.declared.Static.{Static}
use Rattle.source_model.specs.Circuits.{kinds}
use Rattle.source_model.specs.Statics.{statics}
use Rattle.source_model.specs.Used.{is_used}
use Rattle.qasm_lex.specs.declared.fault.CircuitFault.{CircuitFault}
use Rattle.qasm_lex.specs.declared.fault.CircuitFault.TheVariants as circuit_fault
use Rattle.rotation_list.specs.Needs.{is_rotation}
use Rattle.rotation_list.specs.Texts as circuits
use Rattle.patch_layout.specs.declared.layout.Site.{Site}
use Rattle.patch_layout.specs.declared.layout.Site.TheVariants as site
use Rattle.patch_layout.specs.declared.fault.LayoutFault.{LayoutFault}
use Rattle.patch_layout.specs.declared.fault.LayoutFault.TheVariants as layout_fault
use Rattle.patch_layout.specs.Grid.{Grid, Demand, Open}
use Rattle.patch_layout.specs.Row.{row_grid, RowRefused}
use Rattle.patch_layout.specs.LayoutText as layouts
use Rattle.outcome_table.specs.declared.Outcomes.{Outcomes}
use Rattle.outcome_table.specs.declared.fault.OutcomeFault.{OutcomeFault}
use Rattle.outcome_table.specs.declared.fault.OutcomeFault.TheVariants as outcome_fault
use Rattle.outcome_table.specs.OutcomeText as tables
use Rattle.outcome_table.specs.OutcomeText.{Asked}
use Rattle.job_read.specs.Reading.{Seen, IsRow, IsNamed}

-- ---- the circuit

-- the told text stands for this circuit
abbrev pub CircuitStands : Seen → Circuit → Type 0
CircuitStands s c = IfSome s.told (λ text. circuits.StandsFor text c)

-- it is refused with this fault; want of memory is none
abbrev pub CircuitRefused : Seen → CircuitFault → Type 0
CircuitRefused s f = (f ≢ circuit_fault.Memory) × IfSome s.told (λ text. circuits.IsRefused text f)

-- ---- the layout

-- what products on so many qubits ask of a layout: the qubits on which rotations and measurements act, and a port for rotations
abbrev pub demand_of : ℕ → List Static → Demand
demand_of qubits products = record { used = map (is_used products) (range_with_len 0 qubits); rotations = list_any is_rotation products }

abbrev pub wanted_by : Circuit → Demand
wanted_by c = demand_of c.qubits (statics c.items)

-- the row layout of the circuit's qubits, or the one for which the told text stands
abbrev pub IsLayoutOf : List ℕ → Seen → Circuit → Grid → Type 0
IsLayoutOf word s c g =
    (IsRow word × (g ≡ row_grid (min c.qubits 64)))
    ⊎ (IsNamed word × IfSome s.told (λ text. layouts.StandsFor text g))

-- it is open for what the circuit asks
abbrev pub LayoutStands : List ℕ → Seen → Circuit → Grid → Type 0
LayoutStands word s c g = IsLayoutOf word s c g × Open g (wanted_by c)

-- the layout is refused for this circuit with this fault; want of memory is none
abbrev pub LayoutRefused : List ℕ → Seen → Circuit → LayoutFault → Type 0
LayoutRefused word s c f =
    (f ≢ layout_fault.Memory)
    × ((IsRow word × RowRefused (wanted_by c).used f)
    ⊎ (IsNamed word × IfSome s.told (λ text. layouts.Refused text (wanted_by c) f)))

-- ---- the outcomes

-- the factories that have a port, in the order of their cells
abbrev pub factories_in : List Site → List ℕ
factories_in [] = []
factories_in (site.Ancilla ∷ ss) = factories_in ss
factories_in (site.Wall ∷ ss) = factories_in ss
factories_in (site.Patch q level ∷ ss) = factories_in ss
factories_in (site.Port f level store ∷ ss) = f ∷ factories_in ss

-- what the outcomes are read for: the kinds of the circuit's products, and the layout's factories
abbrev pub asked_by : Circuit → Grid → Asked
asked_by c g = record { kinds = kinds c.items; factories = factories_in g.sites }

-- the told text stands for these outcomes and failing runs
abbrev pub OutcomesStand : Seen → Circuit → Grid → Outcomes → Type 0
OutcomesStand s c g o = IfSome s.told (λ text. tables.StandsFor (asked_by c g) text o.given o.fails)

-- it is refused with this fault; want of memory is none
abbrev pub OutcomesRefused : Seen → Circuit → Grid → OutcomeFault → Type 0
OutcomesRefused s c g f = (f ≢ outcome_fault.Memory) × IfSome s.told (λ text. tables.Refuses (asked_by c g) text f)
