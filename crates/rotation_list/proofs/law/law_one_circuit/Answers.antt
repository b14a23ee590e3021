use Rattle.rotation_list.proofs.Unique.{OneReading, circuit_or_fault, one_circuit, one_refusal}
use Rattle.rotation_list.proofs.law.law_one_circuit.Goals as goal

pub returns : goal.returns
returns c =
    let laws : OneReading = record { one = c.law_one_tree.ensures; apart = c.law_tree_or_fault.ensures; one_fault = c.law_one_fault.ensures } in
    record { one = one_circuit laws; apart = circuit_or_fault laws; one_fault = one_refusal laws }
