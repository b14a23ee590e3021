-- What the statements so far make known, and what names mean by it.
use Rattle.std.specs.Prelude.{ℕ, Bool, true, false, ◌&&◌, ◌||◌, is_some, if◌then◌else◌, List, [], ◌∷◌, ◌++◌, position, slice_get, option_and_then, Option, Some, None}
use Rattle.std.specs.List.{list_any}
use Rattle.std.specs.Str.{bytes_eq}
use Rattle.qasm_parse.specs.Gates.{built_in, is_barred}
use Rattle.qasm_parse.specs.declared.known.Known.{Known}
use Rattle.qasm_parse.specs.declared.known.Span.{Span}
use Rattle.qasm_parse.specs.declared.known.Called.{Called}
use Rattle.qasm_parse.specs.declared.known.Meaning.{Meaning}
use Rattle.qasm_parse.specs.declared.known.Meaning.TheVariants.{Quantum, Classical, Gate}

abbrev pub nothing_known : Known
nothing_known = record {
  included = false;
  names = [];
  meanings = [];
  qubits = 0;
  bits = 0;
  tree = record { quantum = []; classical = []; gates = []; statements = [] };
}

-- where a name stands among those that the text declares
abbrev pub place_of : List (List ℕ) → List ℕ → Option ℕ
place_of names name = position (bytes_eq name) names

-- what a name means that the text declares
abbrev pub meaning_of : Known → List ℕ → Option Meaning
meaning_of k name = option_and_then (slice_get k.meanings) (place_of k.names name)

abbrev pub quantum_span : Option Meaning → Option Span
quantum_span None = None
quantum_span (Some (Quantum span)) = Some span
quantum_span (Some (Classical span)) = None
quantum_span (Some (Gate called)) = None

abbrev pub classical_span : Option Meaning → Option Span
classical_span None = None
classical_span (Some (Quantum span)) = None
classical_span (Some (Classical span)) = Some span
classical_span (Some (Gate called)) = None

-- the gate of a name: what the text declares goes before what the include makes known, and a register is no gate
abbrev pub called_gate : Option Meaning → Option Called → Option Called
called_gate None built = built
called_gate (Some (Quantum span)) built = None
called_gate (Some (Classical span)) built = None
called_gate (Some (Gate called)) built = Some called

abbrev pub is_gate : Option Meaning → Bool
is_gate None = false
is_gate (Some (Quantum span)) = false
is_gate (Some (Classical span)) = false
is_gate (Some (Gate called)) = true

abbrev pub quantum_named : Known → List ℕ → Option Span
quantum_named k name = quantum_span (meaning_of k name)

abbrev pub classical_named : Known → List ℕ → Option Span
classical_named k name = classical_span (meaning_of k name)

abbrev pub gate_named : Known → List ℕ → Option Called
gate_named k name = called_gate (meaning_of k name) (if k.included then built_in name else None)

abbrev pub is_own_gate : Known → List ℕ → Bool
is_own_gate k name = is_gate (meaning_of k name)

-- a name that can't be declared: the text declares it already, or the include made it known or took it
abbrev pub is_declared : Known → List ℕ → Bool
is_declared k name = is_some (place_of k.names name) || (k.included && is_barred name)

-- an include can't stand here: it stands a second time, or after the declaration of a name that it makes known or takes
abbrev pub bars_include : Known → Bool
bars_include k = k.included || list_any is_barred k.names

-- one more name
abbrev pub with_name : Known → List ℕ → Meaning → Known
with_name k name meaning = record k { names = k.names ++ name ∷ []; meanings = k.meanings ++ meaning ∷ [] }
