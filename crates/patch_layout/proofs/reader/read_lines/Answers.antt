use Rattle.std.proofs.Common.{List, drop, sym, subst, arith}
use Rattle.patch_base.specs.Texts.{lines}
use Rattle.patch_layout.specs.declared.line.Line.{Line}
use Rattle.patch_layout.specs.inside.Reading.{Keyed}
use Rattle.patch_layout.proofs.Bodies.{Reads, reads_first, reads_more, reads_bad}
use Rattle.patch_layout.proofs.reader.read_lines.Goals as goal

pub loop-line-init : goal.loop-line-init
loop-line-init c =
    let texts = lines (drop c.args.start c.args.text.now) in
    let P : List Line → Type 0 = λ xs. Keyed xs c.args.qubits.now c.args.factories.now in
    let Q : List Line → Type 0 = λ xs. Reads texts xs texts 2 in
    record {
      keyed = subst P (sym c.requires.empty) c.requires.keyed;
      reads = subst Q (sym c.requires.empty) (reads_first texts);
      steps = omega arith;
    }

pub loop-line-preserved : goal.loop-line-preserved
loop-line-preserved c =
    record {
      keyed = c.in_ok-take_line.ensures.keyed c.if-not-branch.false;
      reads = reads_more (lines (drop c.args.start c.args.text.now)) c.loop-line.found.items c.take_line.new.found.items c.in-Some.line.now (lines (drop c.loop-line.at c.args.text.now)) (lines (drop c.in-Some.next c.args.text.now))
          c.loop-line.number c.loop-line.invariant.reads c.in-Some.ensures.2 (c.in_ok-take_line.ensures.takes c.if-not-branch.false);
      steps = omega (arith, c.in-Some.ensures.0, c.loop-line.invariant.steps);
    }

pub returns-then-not-branch-clause-refused : goal.returns-then-not-branch-clause-refused
returns-then-not-branch-clause-refused c =
    reads_bad (lines (drop c.args.start c.args.text.now)) c.loop-line.found.items c.in-Some.line.now (lines (drop c.loop-line.at c.args.text.now)) (lines (drop c.in-Some.next c.args.text.now)) c.loop-line.number c.loop-line.invariant.reads
    c.in-Some.ensures.2 (c.in_ok-take_line.ensures.breaks c.if-not-branch.true)
