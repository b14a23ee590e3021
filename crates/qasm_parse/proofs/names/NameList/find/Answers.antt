use Rattle.std.proofs.Common.{◌∙◌, sym}
use Rattle.std.specs.Str.{bytes_eq}
use Rattle.qasm_parse.proofs.Lists.{position-map}
use Rattle.qasm_parse.proofs.names.NameList.find.Goals as goal

pub returns-clause-value : goal.returns-clause-value
returns-clause-value c = rw (← c.self.view_is) (c.get_index_of.ensures.index ∙ sym (position-map (λ v. v.items) (bytes_eq c.args.name.now) c.self.inside.set.keys))
