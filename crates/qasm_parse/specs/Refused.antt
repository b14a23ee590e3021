-- What the grammar refuses, as a fault of the text.
use Rattle.std.specs.Prelude.{ℕ, Result, Ok, Err}
use Rattle.qasm_grammar.specs.declared.follow.Refusal.{Refusal}
use Rattle.qasm_grammar.specs.declared.follow.Refusal.TheVariants as refusals
use Rattle.qasm_grammar.specs.declared.follow.Halt.{Halt}
use Rattle.qasm_lex.specs.declared.fault.FaultKind.{FaultKind}
use Rattle.qasm_lex.specs.declared.fault.FaultKind.TheVariants.{Version, Syntax, Parameters, Unsupported}
use Rattle.qasm_parse.specs.declared.stop.Stop.{Stop}

abbrev pub kind_of : Refusal → FaultKind
kind_of refusals.Version = Version
kind_of refusals.Syntax = Syntax
kind_of refusals.Parameters = Parameters
kind_of refusals.Unsupported = Unsupported

abbrev pub stop_of : Halt → Stop
stop_of halt = record { at = halt.at; kind = kind_of halt.kind }

-- what following a form gave, with a refusal as the text's own fault
abbrev pub told : Result ℕ Halt → Result ℕ Stop
told (Ok end) = Ok end
told (Err halt) = Err (stop_of halt)
