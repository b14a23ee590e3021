use Rattle.std.proofs.Common.{◌≡◌, ◌-◌, ◌≤◌, ◌<◌, ◌∷◌, [], length, drop}
use Rattle.qasm_grammar.specs.declared.terminal.Terminal.TheVariants.{Name, Comma}
use Rattle.qasm_grammar.specs.Forms.{Form, one, both, many, ◌⨾◌, reads}
use Rattle.qasm_grammar.specs.inside.Forms.{Follows}
use Rattle.qasm_grammar.specs.Grammar as grammar
use Rattle.qasm_grammar.specs.Spelling.{Spells, names_text}
use Rattle.qasm_grammar.proofs.productions.names.Given as goal

abbrev pub invariant-loop-read : goal.invariant-loop-read
invariant-loop-read l = record {
  within : l.at ≤ l.end;
  inside : l.end ≤ length l.found;
  some : 0 < length l.read;
  form : (k : Form) → Follows k (Comma ∷ []) → reads (grammar.names ⨾ k) (drop l.at l.found) l.at ≡ reads (both (many (both (one Comma) (one Name))) k) (drop l.end l.found) l.end;
  spelled : Spells (names_text l.read) l.found l.at l.end;
}

abbrev pub decreases-loop-read : goal.decreases-loop-read
decreases-loop-read l = length l.found - l.end
