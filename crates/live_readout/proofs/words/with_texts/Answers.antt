use Rattle.live_readout.proofs.Naming.{only_live}
use Rattle.live_readout.proofs.words.with_texts.Goals as goal

pub returns-clause-exact : goal.returns-clause-exact
returns-clause-exact c =
    let k = c.in_ok-k.ensures.some in
    only_live c.args.name.now c.args.circuit.now c.args.layout.now c.args.outcomes.now c.args.k.now c.in_ok-k.k k.1 k.2
