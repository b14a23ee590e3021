use Rattle.std.proofs.Common.{rules}
use Rattle.qasm_grammar.specs.Forms.{◌⨾◌, ◌or◌}
use Rattle.qasm_grammar.specs.Grammar.{arg, args, names, brackets, include, register, call_of, named_call, cx_call, measure, barrier, reset, names_after, body_call, body, bodies, gate, if_equal, statement}
use Rattle.qasm_grammar.proofs.law.law_grammar.Goals as goal

pub returns : goal.returns
unfolding ◌⨾◌ ◌or◌ arg args names brackets include register call_of named_call cx_call measure barrier reset names_after body_call body bodies gate if_equal statement
returns c = search rules
