use Rattle.std.proofs.Common.{◌∙◌, sym}
use Rattle.qasm_parse.specs.Gates.{is_barred}
use Rattle.qasm_parse.proofs.Lists.{list_any-map}
use Rattle.qasm_parse.proofs.names.NameList.any_barred.Goals as goal

pub returns : goal.returns
returns c = rw (← c.self.view_is) (c.any_barred.ensures ∙ sym (list_any-map (λ v. v.items) is_barred c.self.inside.set.keys))
