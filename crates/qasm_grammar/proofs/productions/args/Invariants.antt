use Rattle.std.proofs.Common.{◌≡◌, ◌-◌, ◌≤◌, ◌<◌, ◌∷◌, [], length, drop}
use Rattle.qasm_grammar.specs.declared.terminal.Terminal.TheVariants.{OpenBracket, Comma}
use Rattle.qasm_grammar.specs.Forms.{Form, one, both, many, ◌⨾◌, reads}
use Rattle.qasm_grammar.specs.inside.Forms.{Follows}
use Rattle.qasm_grammar.specs.Grammar as grammar
use Rattle.qasm_grammar.specs.Spelling.{Spells, args_text}
use Rattle.qasm_grammar.proofs.productions.args.Given as goal

abbrev pub invariant-loop-read : goal.invariant-loop-read
invariant-loop-read l = record {
  within : l.at ≤ l.end;
  inside : l.end ≤ length l.found;
  some : 0 < length l.read;
  form : (k : Form) → Follows k (OpenBracket ∷ Comma ∷ []) → reads (grammar.args ⨾ k) (drop l.at l.found) l.at ≡ reads (both (many (both (one Comma) grammar.arg)) k) (drop l.end l.found) l.end;
  spelled : Spells (args_text l.read) l.found l.at l.end;
}

abbrev pub decreases-loop-read : goal.decreases-loop-read
decreases-loop-read l = length l.found - l.end
