-- The laws that crates above cite.
use Rattle.rotation_list.specs.Laws.{CircuitOrFault}
use Rattle.qasm_parse.specs.Laws.{TreeOrFault}
use Rattle.rotation_list.proofs.Existing as existing

pub circuit_or_fault : TreeOrFault → CircuitOrFault
circuit_or_fault = existing.circuit_or_fault
