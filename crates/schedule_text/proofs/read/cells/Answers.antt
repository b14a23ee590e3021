use Rattle.std.proofs.Common.{arith}
use Rattle.schedule_text.proofs.Rising.{so_far_first, so_far_next, so_far_other, so_far_low, so_far_done}
use Rattle.schedule_text.proofs.read.cells.Goals as goal

pub loop-word-init : goal.loop-word-init
loop-word-init c = so_far_first c.args.words.now c.new-cells.result c.new-cells.ensures

pub returns-in_default-decimal-clause-other : goal.returns-in_default-decimal-clause-other
returns-in_default-decimal-clause-other c = so_far_other _ _ c.next_word.new.self _ _ c.in-Some.word.now c.loop-word.invariant c.in-Some.ensures.word c.in_default-decimal.ensures.other

pub returns-then-cell-least-clause-other : goal.returns-then-cell-least-clause-other
returns-then-cell-least-clause-other c =
    let (small, is) = c.in-Some-decimal.ensures.value in
    so_far_low _ _ c.next_word.new.self _ _ c.in-Some-decimal.cell c.in-Some.word.now c.loop-word.invariant c.in-Some.ensures.word small is c.if-cell-least.true

pub loop-word-preserved : goal.loop-word-preserved
loop-word-preserved c =
    let (small, is) = c.in-Some-decimal.ensures.value in
    so_far_next _ _ c.next_word.new.self _ _ _ c.in-Some-decimal.cell c.in-Some.word.now c.loop-word.invariant c.in-Some.ensures.word small is c.if-cell-least.false c.in_ok-push.ensures

pub returns-clause-found : goal.returns-clause-found
returns-clause-found c = so_far_done _ _ _ _ c.loop-word.invariant c.in_default.ensures.end.0 (omega arith)
