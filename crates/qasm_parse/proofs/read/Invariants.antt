use Rattle.std.proofs.Common.{◌-◌, length}
use Rattle.qasm_parse.proofs.Passing.{Standing}
use Rattle.qasm_parse.proofs.read.Given as goal

abbrev pub invariant-reading : goal.invariant-reading
invariant-reading l = Standing l.source l.found.items l.known l.at

abbrev pub decreases-reading : goal.decreases-reading
decreases-reading l = length l.source.tokens - l.at
