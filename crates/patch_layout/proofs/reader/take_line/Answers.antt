use Rattle.std.proofs.Common.{List, sym, subst, arith}
use Rattle.std.proofs.lemmas.Bool.{false≢true}
use Rattle.patch_layout.specs.declared.line.Line.{Line}
use Rattle.patch_layout.specs.inside.Reading.{Keyed}
use Rattle.patch_layout.proofs.Bodies.{keyed_more, stale_breaks}
use Rattle.patch_layout.proofs.reader.take_line.Goals as goal

pub returns-then-not-take_key-clause-breaks : goal.returns-then-not-take_key-clause-breaks
returns-then-not-take_key-clause-breaks c = λ _.
    stale_breaks c.args.found.now.items c.args.qubits.now c.args.factories.now c.args.text.now c.in-Some.line c.requires (λ s. false≢true (c.if-is_skipped.ensures.1 s)) c.in-Some.ensures.value (c.take_key.ensures.marked c.if-not-take_key.true)

pub returns-clause-keyed : goal.returns-clause-keyed
returns-clause-keyed c = λ _.
    let P : List Line → Type 0 = λ xs. Keyed xs c.take_key.new.qubits c.take_key.new.factories in
    subst P (sym c.in_ok-push.ensures.items)
    (keyed_more c.args.found.now.items c.args.qubits.now c.args.factories.now c.take_key.new.qubits c.take_key.new.factories c.in-Some.line c.requires (omega (arith, c.requires.qubits_size)) (omega (arith, c.requires.factories_size)) c.take_key.ensures.had c.take_key.ensures.has)
