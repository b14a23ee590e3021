use Rattle.std.proofs.Common.{arith, subst, sym}
use Rattle.board_core.specs.Laws.{ProductsOfLength}
use Rattle.turn_tests.proofs.Boards.{limits, open_for, letters, long}
use Rattle.turn_tests.proofs.board.board_for.Goals as goal

pub new-requires-clause-limits : goal.new-requires-clause-limits
new-requires-clause-limits c =
    limits c.args.rotations c.in_ok-products.products.items c.in_ok-products.ensures.each c.in_ok-layout.layout c.in_ok-pool.pool c.args.fails.now
    (omega (arith, c.in_ok-products.ensures.count)) c.in_ok-pool.ensures.fails c.requires.fails

pub new-requires-clause-open : goal.new-requires-clause-open
new-requires-clause-open c = open_for c.args.rotations c.in_ok-products.products.items c.in_ok-products.ensures.each c.in_ok-layout.layout c.in_ok-layout.ensures

pub new-requires-clause-letters : goal.new-requires-clause-letters
new-requires-clause-letters c = letters c.args.rotations c.in_ok-products.products.items c.in_ok-products.ensures.each

pub order_of-requires-clause-qubits : goal.order_of-requires-clause-qubits
order_of-requires-clause-qubits c =
    (2, subst (ProductsOfLength 2) (sym c.deref.ensures.value) (long c.args.rotations c.in_ok-products.products.items c.in_ok-products.ensures.each))
