use Rattle.std.proofs.Common.{arith, subst, sym}
use Rattle.board_core.specs.Laws.{ProductsOfLength}
use Rattle.board_tests.proofs.Two.{limits, open_for, letters, long}
use Rattle.board_tests.proofs.board.board_for.Goals as goal

pub new-requires-clause-limits : goal.new-requires-clause-limits
new-requires-clause-limits c =
    limits c.in_ok-products.products.items c.in_ok-layout.layout c.in_ok-pool.pool c.args.fails.now c.in_ok-products.ensures.each
    (omega (arith, c.in_ok-products.ensures.count)) c.in_ok-pool.ensures.fails c.requires.fails

pub new-requires-clause-open : goal.new-requires-clause-open
new-requires-clause-open c = open_for c.in_ok-layout.layout c.in_ok-products.products.items c.in_ok-layout.ensures c.in_ok-products.ensures.each

pub new-requires-clause-letters : goal.new-requires-clause-letters
new-requires-clause-letters c = letters c.in_ok-products.products.items c.in_ok-products.ensures.each

pub order_of-requires-clause-qubits : goal.order_of-requires-clause-qubits
order_of-requires-clause-qubits c = (2, subst (ProductsOfLength 2) (sym c.deref.ensures.value) (long c.in_ok-products.products.items c.in_ok-products.ensures.each))
