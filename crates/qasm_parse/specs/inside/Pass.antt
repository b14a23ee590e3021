-- What the second pass answers, or out of memory.
use Rattle.std.specs.Prelude.{Result, Ok, Err}
use Rattle.qasm_parse.specs.declared.stop.Fault.{Fault}
use Rattle.qasm_parse.specs.declared.stop.Fault.TheVariants.{Memory, Stopping}
use Rattle.qasm_parse.specs.declared.known.Known.{Known}
use Rattle.qasm_parse.specs.Lexed.{Lexed}
use Rattle.qasm_parse.specs.Pass.{Reading}

-- what was answered is what reading gives, unless memory ran out
abbrev pub ReadsAll : Lexed → Result Known Fault → Type 0
ReadsAll x (Ok k) = Reading x (Ok k)
ReadsAll x (Err Memory) = Unit {0}
ReadsAll x (Err (Stopping stop)) = Reading x (Err stop)
