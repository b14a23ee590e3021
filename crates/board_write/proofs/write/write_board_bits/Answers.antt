use Rattle.std.proofs.Common.{ℕ, List, ◌++◌, subst, arith}
use Rattle.patch_base.specs.Outside.{Grew, AppendsPrefix}
use Rattle.fault_lines.specs.Sinks.{writing}
use Rattle.fault_lines.proofs.Sinks.{grew_on, part_longer, part_on}
use Rattle.board_write.specs.Boards.{bits_shown}
use Rattle.board_write.proofs.Written.{unwritten}
use Rattle.board_write.proofs.Scheduled.{same_shown}
use Rattle.board_write.proofs.write.write_board_bits.Goals as goal

pub returns-in_err-write_all-clause-written : goal.returns-in_err-write_all-clause-written
returns-in_err-write_all-clause-written g c = λ table is.
    unwritten
    (writing g.O.Sink.taken g.O.Sink.faults c.args.out.now c.write_all.new.out)
    (c.args.before.now ++ bits_shown c.args.circuit.now table)
    c.from_residual-in_err-write_all.result c.from_residual-in_err-write_all.ensures.1
    (c.in_err-write_all.ensures.failed, part_longer _ _ _ (bits_shown c.args.circuit.now table) c.in_err-write_all.ensures.prefix)

pub returns-in_err-write_bits-clause-written : goal.returns-in_err-write_bits-clause-written
returns-in_err-write_bits-clause-written g c = λ table is.
    let same = same_shown c.args.circuit.now table c.in_ok-bits.bits.items c.requires.circuit (c.in_ok-bits.ensures.bits table is.kinds is.complete) in
    let part = rw c.deref.ensures.value at c.in_err-write_bits.ensures.prefix in
    let shown = subst (λ (text : List ℕ). AppendsPrefix (g.O.Sink.taken c.write_all.new.out) (g.O.Sink.taken c.write_bits.new.out) text) same part in
    unwritten
    (writing g.O.Sink.taken g.O.Sink.faults c.args.out.now c.write_bits.new.out)
    (c.args.before.now ++ bits_shown c.args.circuit.now table)
    c.from_residual-in_err-write_bits.result c.from_residual-in_err-write_bits.ensures.1
    (omega (arith, c.in_err-write_bits.ensures.failed), part_on _ _ _ _ _ c.in_ok-write_all.ensures.all shown)

pub returns-clause-written : goal.returns-clause-written
returns-clause-written g c = λ table is.
    let same = same_shown c.args.circuit.now table c.in_ok-bits.bits.items c.requires.circuit (c.in_ok-bits.ensures.bits table is.kinds is.complete) in
    let took = rw c.deref.ensures.value at c.in_ok-write_bits.ensures.all in
    grew_on _ _ _ _ _ c.in_ok-write_all.ensures.all (subst (λ (text : List ℕ). Grew (g.O.Sink.taken c.write_all.new.out) (g.O.Sink.taken c.write_bits.new.out) text) same took)
