use Rattle.qasm_parse.proofs.Lists.{key_pushed}
use Rattle.qasm_parse.proofs.names.NameList.push.Goals as goal

pub returns : goal.returns
returns c = key_pushed (λ v. v.items) c.self.inside.set.keys c.insert.new.self.keys c.in_ok-owned.owned c.args.self.now c.args.name.now c.self.view_is c.in_ok-owned.ensures.items c.requires c.in_ok-insert.ensures.keys
