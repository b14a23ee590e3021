use Rattle.commute_order.proofs.tests.order.Goals as goal

pub build-requires-clause-qubits : goal.build-requires-clause-qubits
build-requires-clause-qubits c = (1, rw c.deref.ensures.value c.in_ok-products.ensures.one)
