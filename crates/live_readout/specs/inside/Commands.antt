-- A command as its words are read.
use Rattle.std.specs.Prelude.{ℕ, List}
use Rattle.live_readout.specs.declared.words.LiveCommand.{LiveCommand}
use Rattle.live_readout.specs.Commands.{Command}

abbrev pub command : List ℕ → List ℕ → List ℕ → ℕ → Command
command circuit layout outcomes k = record { circuit = circuit; layout = layout; outcomes = outcomes; k = k }

-- what an answered command says
abbrev pub command_of : LiveCommand → Command
command_of c = command c.circuit.now c.layout.now c.outcomes.now c.k
