use Rattle.std.proofs.Common.{refl}
use Rattle.qasm_parse.proofs.parse.Goals as goal

pub new-source-requires : goal.new-source-requires
new-source-requires c = record {
  short = c.law_short.ensures c.args.text.now c.args.tokens.now c.requires;
  placed = c.law_placed.ensures c.args.text.now c.args.tokens.now c.requires;
}

pub returns-in-Ok : goal.returns-in-Ok
returns-in-Ok c = record {
  known = c.in-Ok.known;
  reading = rw c.new-source.ensures at c.in-Ok.ensures;
  same = refl;
}
