use Rattle.std.proofs.Common.{◌∙◌, arith}
use Rattle.board_core.proofs.Beginning.{all_long}
use Rattle.board_core.proofs.waiting.order_of.Goals as goal

pub build-requires-clause-qubits : goal.build-requires-clause-qubits
build-requires-clause-qubits c =
    (c.requires.qubits.0, all_long c.requires.qubits.0 c.args.products.now c.deref.result.now c.loop-product.product-index (c.deref.ensures.value ∙ c.loop-product.invariant.axes_are) (omega arith) c.requires.qubits.1)
