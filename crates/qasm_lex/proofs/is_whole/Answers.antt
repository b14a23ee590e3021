use Rattle.std.proofs.Common.{◌∙◌}
use Rattle.qasm_lex.proofs.Wholes.{whole_or_not}
use Rattle.qasm_lex.proofs.is_whole.Goals as goal

pub returns : goal.returns
returns c = c.is_some.ensures ∙ whole_or_not c.args.run.now c.decimal.result c.decimal.ensures.value c.decimal.ensures.other
