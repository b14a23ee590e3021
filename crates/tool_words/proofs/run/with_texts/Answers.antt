use Rattle.tool_words.proofs.Only.{only_run, only_bits}
use Rattle.tool_words.proofs.run.with_texts.Goals as goal

pub returns-in-run-clause-exact : goal.returns-in-run-clause-exact
returns-in-run-clause-exact c =
    let k = c.in_ok-k.ensures.some in
    only_run c.args.name.now c.args.circuit.now c.args.layout.now c.args.outcomes.now c.args.k.now c.in_ok-k.k k.1 k.2 c.in-run.is

pub returns-in-bits-clause-exact : goal.returns-in-bits-clause-exact
returns-in-bits-clause-exact c =
    let k = c.in_ok-k.ensures.some in
    only_bits c.args.name.now c.args.circuit.now c.args.layout.now c.args.outcomes.now c.args.k.now c.in_ok-k.k k.1 k.2 c.in-bits.is
