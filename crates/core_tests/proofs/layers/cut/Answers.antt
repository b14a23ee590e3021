use Rattle.core_tests.proofs.layers.cut.Goals as goal

pub build-requires-clause-qubits : goal.build-requires-clause-qubits
build-requires-clause-qubits c = (3, rw c.deref.ensures.value c.loop-axis.invariant.0)
