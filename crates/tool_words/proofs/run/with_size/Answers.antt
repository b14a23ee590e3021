use Rattle.tool_words.proofs.Only.{only_big}
use Rattle.tool_words.proofs.run.with_size.Goals as goal

pub returns-clause-exact : goal.returns-clause-exact
returns-clause-exact c =
    let n = c.in_ok-number_to.ensures.some in
    let k = c.in_ok-number_to-2.ensures.some in
    only_big c.args.n.now c.args.k.now c.in_ok-number_to.field-0 c.in_ok-number_to-2.field-0 n.1 k.1 n.2 k.2
