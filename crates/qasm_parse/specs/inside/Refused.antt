-- What the grammar's reader refuses, as the crate's own fault.
use Rattle.qasm_grammar.specs.declared.follow.Unread.{Unread}
use Rattle.qasm_grammar.specs.declared.follow.Unread.TheVariants as unreads
use Rattle.qasm_parse.specs.declared.stop.Fault.{Fault}
use Rattle.qasm_parse.specs.declared.stop.Fault.TheVariants.{Memory, Stopping}
use Rattle.qasm_parse.specs.Refused.{stop_of}

abbrev pub fault_of : Unread → Fault
fault_of unreads.Memory = Memory
fault_of (unreads.Halted halt) = Stopping (stop_of halt)
