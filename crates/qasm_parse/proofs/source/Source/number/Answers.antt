use Rattle.std.proofs.Common.{◌∙◌, ap}
use Rattle.qasm_parse.specs.Lexed.{number_of}
use Rattle.qasm_parse.proofs.Numbers.{number_is}
use Rattle.qasm_parse.proofs.source.Source.number.Goals as goal

pub returns : goal.returns
returns c = c.unwrap_or.ensures ∙ number_is c.word.result.now c.decimal.result c.decimal.ensures.value c.decimal.ensures.other ∙ ap number_of c.word.ensures
