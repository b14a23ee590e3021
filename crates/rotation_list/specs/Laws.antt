-- Laws of circuit texts: what a text stands for is one, and a printed product list stands for the static circuit.
use Rattle.std.specs.Prelude.{◌≡◌, ◌⊎◌, ℕ, ◌≤◌, List, length}
use Rattle.source_model.specs.declared.Circuit.{Circuit}
use Rattle.qasm_lex.specs.declared.fault.CircuitFault.{CircuitFault}
use Rattle.product_list.specs.Listable.{lowered, static_circuit}
use Rattle.rotation_list.specs.Texts.{IsRefused, StandsFor}

-- a text stands for one circuit at most
abbrev pub OneCircuit : Type 0
OneCircuit = (text : List ℕ) (c d : Circuit) → StandsFor text c → StandsFor text d → c ≡ d

-- a text that stands for a circuit isn't refused
abbrev pub NotBoth : Type 0
NotBoth = (text : List ℕ) (c : Circuit) (f : CircuitFault) → StandsFor text c → IsRefused text f → ⊥

-- a text is refused with one fault at most
abbrev pub OneFault : Type 0
OneFault = (text : List ℕ) (f g : CircuitFault) → IsRefused text f → IsRefused text g → f ≡ g

-- each text stands for a circuit or is refused
abbrev pub CircuitOrFault : Type 0
CircuitOrFault = (text : List ℕ) →
    ((c : Circuit) × StandsFor text c) ⊎ ((f : CircuitFault) × IsRefused text f)

-- where a text stands for a circuit, the circuit's product list stands for its static circuit; a text that is read has at most 4 MiB
abbrev pub PrintedStands : Type 0
PrintedStands = (text : List ℕ) (c : Circuit) → StandsFor text c →
    length (lowered c) ≤ 4194304 → StandsFor (lowered c) (static_circuit c)

-- the static circuit has the same product list
abbrev pub PrintedAgain : Type 0
PrintedAgain = (c : Circuit) → lowered (static_circuit c) ≡ lowered c
