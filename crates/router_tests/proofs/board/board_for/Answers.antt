use Rattle.std.proofs.Common.{arith, subst, sym}
use Rattle.board_core.specs.Laws.{ProductsOfLength}
use Rattle.router_tests.proofs.Wide.{limits, open_for, letters, long}
use Rattle.router_tests.proofs.board.board_for.Goals as goal

pub new-requires-clause-limits : goal.new-requires-clause-limits
new-requires-clause-limits c =
    limits c.args.job.now.qubits c.args.job.now.rotations c.in_ok-products.products.items c.in_ok-products.ensures.each c.in_ok-layout.layout c.in_ok-pool.pool
    (omega arith) c.in_ok-products.ensures.count c.in_ok-pool.ensures.fails

pub new-requires-clause-open : goal.new-requires-clause-open
new-requires-clause-open c =
    open_for c.args.job.now.qubits c.args.job.now.rotations c.in_ok-products.products.items c.in_ok-products.ensures.each c.in_ok-layout.layout c.in_ok-layout.ensures

pub new-requires-clause-letters : goal.new-requires-clause-letters
new-requires-clause-letters c = letters c.args.job.now.qubits c.args.job.now.rotations c.in_ok-products.products.items c.in_ok-products.ensures.each

pub order_of-requires-clause-qubits : goal.order_of-requires-clause-qubits
order_of-requires-clause-qubits c =
    let n = c.args.job.now.qubits in
    (n, subst (ProductsOfLength n) (sym c.deref.ensures.value) (long n c.args.job.now.rotations c.in_ok-products.products.items c.in_ok-products.ensures.each))
