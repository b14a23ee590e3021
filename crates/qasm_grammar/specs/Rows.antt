-- Worked examples.
use Rattle.std.specs.Prelude.{◌≡◌, [], ◌∷◌, Ok, Err}
use Rattle.qasm_grammar.specs.declared.follow.Refusal.TheVariants.{Version, Syntax, Parameters, Unsupported}
use Rattle.qasm_grammar.specs.declared.terminal.Terminal.TheVariants.{Openqasm, Name, Measure, Arrow, Cx, Open, Close, OpenBracket, Semicolon, Include, Quoted}
use Rattle.qasm_grammar.specs.Forms.{reads}
use Rattle.qasm_grammar.specs.Grammar.{one_version, statement}

-- what the grammar refuses, and at which token
pub record GrammarRows : Type 0 where
  -- a text without the version
  pub no_version : reads one_version (Openqasm ∷ Name ∷ []) 0 ≡ Err (record { at = 1; kind = Version })
  -- `h q[` at the end of the text
  pub at_the_end : reads statement (Name ∷ Name ∷ OpenBracket ∷ []) 7 ≡ Err (record { at = 10; kind = Syntax })
  -- `rz(pi/4) q[0];`
  pub parameters : reads statement (Name ∷ Open ∷ Name ∷ Close ∷ Name ∷ Semicolon ∷ []) 0 ≡ Err (record { at = 2; kind = Parameters })
  -- `CX(` ..
  pub after_cx : reads statement (Cx ∷ Open ∷ []) 0 ≡ Err (record { at = 1; kind = Syntax })
  -- `include "other.inc"`, where the semicolon is missing
  pub other_text : reads statement (Include ∷ Quoted ∷ []) 0 ≡ Err (record { at = 1; kind = Unsupported })
  -- `measure q -> c; ..`
  pub measured : reads statement (Measure ∷ Name ∷ Arrow ∷ Name ∷ Semicolon ∷ Name ∷ []) 0 ≡ Ok 5
