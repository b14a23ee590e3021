use Rattle.std.proofs.Common.{◌≡◌, ◌-◌, ◌≤◌, length, drop, None}
use Rattle.qasm_grammar.specs.declared.terminal.Terminal.TheVariants.{CloseBrace}
use Rattle.qasm_grammar.specs.Forms.{Form, one, both, many, ◌⨾◌, refusal, reads}
use Rattle.qasm_grammar.specs.Grammar as grammar
use Rattle.qasm_grammar.specs.Spelling.{Spells, bodies_text}
use Rattle.qasm_grammar.proofs.productions.bodies.Given as goal

abbrev pub invariant-body : goal.invariant-body
invariant-body l = record {
  within : l.at ≤ l.end;
  inside : l.end ≤ length l.found;
  form : (k : Form) → refusal k ≡ None → reads (grammar.bodies ⨾ k) (drop l.at l.found) l.at ≡ reads (both (many grammar.body) (both (one CloseBrace) k)) (drop l.end l.found) l.end;
  spelled : Spells (bodies_text l.read) l.found l.at l.end;
}

abbrev pub decreases-body : goal.decreases-body
decreases-body l = length l.found - l.end
