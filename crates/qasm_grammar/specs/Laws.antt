-- What the laws of the grammar say.
use Rattle.std.specs.Prelude.{◌≡◌, ◌<◌, ◌≤◌, ℕ, List, length, drop, Ok, Err}
use Rattle.qasm_grammar.specs.declared.follow.Halt.{Halt}
use Rattle.qasm_grammar.specs.declared.terminal.Terminal.{Terminal}
use Rattle.qasm_grammar.specs.declared.spoken.Sentence.{Sentence}
use Rattle.qasm_grammar.specs.Forms.{Form, reads}
use Rattle.qasm_grammar.specs.Grammar.{one_statement}
use Rattle.qasm_grammar.specs.Meaning.{ReadsTo, StopsAt}
use Rattle.qasm_grammar.specs.Spelling.{Spells, sentence_text}

-- what is read by following a form is what the form allows
abbrev pub Read : Type 0
Read = (f : Form) (ts : List Terminal) (n end : ℕ) → reads f ts n ≡ Ok end → ReadsTo f ts n end

-- where tokens are refused, nothing that the form allows goes on
abbrev pub Stopping : Type 0
Stopping = (f : Form) (ts : List Terminal) (n : ℕ) (halt : Halt) → reads f ts n ≡ Err halt → StopsAt f ts n halt

-- tokens that are read as a statement spell one
abbrev pub SomeSentence : Type 0
SomeSentence =
    (found : List Terminal) (at end : ℕ) → reads one_statement (drop at found) at ≡ Ok end
    → (s : Sentence) × Spells (sentence_text s) found at end × (at < end) × (end ≤ length found)

-- two statements that the same tokens spell are one
abbrev pub OneSentence : Type 0
OneSentence =
    (s u : Sentence) (found : List Terminal) (at m n : ℕ)
    → Spells (sentence_text s) found at m → Spells (sentence_text u) found at n → (s ≡ u) × (m ≡ n)
