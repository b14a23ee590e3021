-- Tokens that name nothing.
use Rattle.std.specs.Prelude.{List, [], ◌∷◌}
use Rattle.qasm_grammar.specs.declared.terminal.Terminal.{Terminal}
use Rattle.qasm_grammar.specs.Spelling.{Piece, fixed}

abbrev pub fixed_text : List Terminal → List Piece
fixed_text [] = []
fixed_text (t ∷ ts) = fixed t ∷ fixed_text ts
