use Rattle.std.proofs.Common.{[], refl, sym, ◌∙◌}
use Rattle.qasm_lex.specs.declared.fault.FaultKind.TheVariants.{Declared}
use Rattle.qasm_parse.proofs.First.{first_none}
use Rattle.qasm_parse.proofs.Broken.{rule_is, rule_not}
use Rattle.qasm_parse.proofs.trying.include.Goals as goal

pub returns-then-bars_include : goal.returns-then-bars_include
returns-then-bars_include c = rule_is Declared _ c.args.at [] (sym c.if-bars_include.ensures)

pub returns : goal.returns
returns c = (rule_not Declared _ c.args.at [] (sym c.if-bars_include.ensures) ∙ first_none, refl)
