use Rattle.std.proofs.Common.{◌≡◌, map, take}
use Rattle.qasm_parse.specs.Words.{terminal_of}
use Rattle.qasm_parse.proofs.source.terminals.Given as goal

abbrev pub invariant-loop-token : goal.invariant-loop-token
invariant-loop-token l = l.found.items ≡ map (terminal_of l.included l.text) (take l.token-index l.tokens)
