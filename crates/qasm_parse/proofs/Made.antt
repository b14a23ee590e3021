-- What declarations add to what is known.
use Rattle.std.proofs.Common.{ℕ, ◌+◌, List}
use Rattle.qasm_parse.specs.declared.tree.Declared.{Declared}
use Rattle.qasm_parse.specs.declared.tree.GateDef.{GateDef}
use Rattle.qasm_parse.specs.declared.known.Known.{Known}

abbrev pub declared_quantum : Known → List Declared → ℕ → Known
declared_quantum d q m = record {
  included = d.included;
  names = d.names;
  meanings = d.meanings;
  qubits = d.qubits + m;
  bits = d.bits;
  tree = record { quantum = q; classical = d.tree.classical; gates = d.tree.gates; statements = d.tree.statements };
}

abbrev pub declared_classical : Known → List Declared → ℕ → Known
declared_classical d q m = record {
  included = d.included;
  names = d.names;
  meanings = d.meanings;
  qubits = d.qubits;
  bits = d.bits + m;
  tree = record { quantum = d.tree.quantum; classical = q; gates = d.tree.gates; statements = d.tree.statements };
}

abbrev pub declared_gate : Known → List GateDef → Known
declared_gate d g = record {
  included = d.included;
  names = d.names;
  meanings = d.meanings;
  qubits = d.qubits;
  bits = d.bits;
  tree = record { quantum = d.tree.quantum; classical = d.tree.classical; gates = g; statements = d.tree.statements };
}
