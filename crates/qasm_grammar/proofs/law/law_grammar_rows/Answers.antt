use Rattle.std.proofs.Common.{refl}
use Rattle.qasm_grammar.specs.Forms.{reads, next, may_end, at_end, ◌⨾◌, ◌or◌}
use Rattle.qasm_grammar.specs.Grammar.{version, arg, args, names, brackets, include, register, call_of, named_call, cx_call, measure, barrier, reset, names_after, body_call, body, bodies, gate, if_equal, statement}
use Rattle.qasm_grammar.proofs.law.law_grammar_rows.Goals as goal

pub returns : goal.returns
unfolding reads next may_end at_end ◌⨾◌ version ◌or◌ arg args names brackets include register call_of named_call cx_call measure barrier reset names_after body_call body bodies gate if_equal statement
returns c = record {
  no_version = refl;
  at_the_end = refl;
  parameters = refl;
  after_cx = refl;
  other_text = refl;
  measured = refl;
}
