use Rattle.std.proofs.Common.{◌∙◌, sym, ap, refl}
use Rattle.qasm_parse.specs.Known.{gate_named}
use Rattle.qasm_parse.proofs.definitions.find_gate.Goals as goal

pub returns-in-None : goal.returns-in-None
returns-in-None c = (ap (gate_named c.args.known.now) (sym c.word.ensures) ∙ sym c.in-None.ensures, refl)
