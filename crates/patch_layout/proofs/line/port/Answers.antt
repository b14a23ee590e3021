use Rattle.std.proofs.Common.{arith}
use Rattle.patch_layout.proofs.Spelled.{port_fourth, port_numbers, none_any}
use Rattle.patch_layout.proofs.line.port.Goals as goal

pub returns-in_err-store-clause-other : goal.returns-in_err-store-clause-other
returns-in_err-store-clause-other c =
    none_any _ c.from_residual-in_err-store.result
    (port_fourth c.args.words.now c.number.new.words c.number-2.new.words c.side.new.words c.in_ok-factory.factory c.in_ok-cell.cell c.in_ok-level.level c.in_ok-factory.ensures.value.1 c.in_ok-cell.ensures.value.1 c.in_ok-level.ensures.value
    c.in_err-store.ensures.other)

pub returns-then-factory-ge16-clause-other : goal.returns-then-factory-ge16-clause-other
returns-then-factory-ge16-clause-other c = λ l p.
    let n = port_numbers c.args.words.now c.number.new.words c.number-2.new.words c.side.new.words c.number-3.new.words c.in_ok-factory.factory c.in_ok-cell.cell c.in_ok-store.store c.in_ok-level.level c.in_ok-factory.ensures.value.1
    c.in_ok-cell.ensures.value.1 c.in_ok-level.ensures.value c.in_ok-store.ensures.value.1 c.in_ok-factory.ensures.value.0 c.in_ok-store.ensures.value.0 l p in
    omega (arith, n.0)

pub returns-then-store-eq0-clause-other : goal.returns-then-store-eq0-clause-other
returns-then-store-eq0-clause-other c = λ l p.
    let n = port_numbers c.args.words.now c.number.new.words c.number-2.new.words c.side.new.words c.number-3.new.words c.in_ok-factory.factory c.in_ok-cell.cell c.in_ok-store.store c.in_ok-level.level c.in_ok-factory.ensures.value.1
    c.in_ok-cell.ensures.value.1 c.in_ok-level.ensures.value c.in_ok-store.ensures.value.1 c.in_ok-factory.ensures.value.0 c.in_ok-store.ensures.value.0 l p in
    omega (arith, n.1)

pub returns-then-store-gt16-clause-other : goal.returns-then-store-gt16-clause-other
returns-then-store-gt16-clause-other c = λ l p.
    let n = port_numbers c.args.words.now c.number.new.words c.number-2.new.words c.side.new.words c.number-3.new.words c.in_ok-factory.factory c.in_ok-cell.cell c.in_ok-store.store c.in_ok-level.level c.in_ok-factory.ensures.value.1
    c.in_ok-cell.ensures.value.1 c.in_ok-level.ensures.value c.in_ok-store.ensures.value.1 c.in_ok-factory.ensures.value.0 c.in_ok-store.ensures.value.0 l p in
    omega (arith, n.2)
