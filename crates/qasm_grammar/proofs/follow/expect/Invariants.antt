use Rattle.std.proofs.Common.{◌≡◌, ◌+◌, ◌≤◌, length, take, drop, None}
use Rattle.qasm_grammar.specs.Forms.{Form, refusal, reads}
use Rattle.qasm_grammar.specs.inside.Forms.{tokens_then}
use Rattle.qasm_grammar.specs.Spelling.{Spells}
use Rattle.qasm_grammar.specs.inside.Spelling.{fixed_text}
use Rattle.qasm_grammar.proofs.follow.expect.Given as goal

abbrev pub invariant-loop-next : goal.invariant-loop-next
invariant-loop-next l = record {
  end_is : l.end ≡ l.at + l.next-index;
  inside : l.end ≤ length l.found;
  form : (k : Form) → refusal k ≡ None → reads (tokens_then l.wanted k) (drop l.at l.found) l.at ≡ reads (tokens_then (drop l.next-index l.wanted) k) (drop l.end l.found) l.end;
  spelled : Spells (fixed_text (take l.next-index l.wanted)) l.found l.at l.end;
}
