-- Worked examples.
use Rattle.std.specs.Prelude.{◌≡◌, ℕ, true, false, ◌+◌, ◌++◌, List, [], ◌∷◌, codes, length, Some}
use Rattle.qasm_lex.specs.declared.fault.FaultKind.TheVariants.{Unknown, Declared, Undeclared, Index, Sizes, SameQubit}
use Rattle.qasm_lex.specs.declared.Token.{Token}
use Rattle.qasm_lex.specs.declared.TokenKind.TheVariants.{Word}
use Rattle.qasm_grammar.specs.declared.spoken.Argument.TheVariants as arguments
use Rattle.qasm_parse.specs.declared.known.Known.{Known}
use Rattle.qasm_parse.specs.declared.known.Meaning.TheVariants.{Quantum, Classical}
use Rattle.qasm_parse.specs.Lexed.{Lexed}
use Rattle.qasm_parse.specs.Known.{nothing_known, gate_named, is_declared, bars_include}
use Rattle.qasm_parse.specs.Faults.{first_fault, named_faults, call_faults, measure_faults, head_faults, qubits_pass}

-- words one after another, a token each
abbrev pub tokens_of_words : ℕ → List (List ℕ) → List Token
tokens_of_words at [] = []
tokens_of_words at (w ∷ ws) = record { kind = Word; start = at; end = at + length w; line = 1 } ∷ tokens_of_words (at + length w) ws

abbrev pub joined : List (List ℕ) → List ℕ
joined [] = []
joined (w ∷ ws) = w ++ joined ws

abbrev pub text_of : List (List ℕ) → Lexed
text_of ws = record { text = joined ws; tokens = tokens_of_words 0 ws }

-- a quantum register `q` and a classical one `c` with two members each, after the include
abbrev pub two : Known
two = record {
  included = true;
  names = codes "q" ∷ codes "c" ∷ [];
  meanings = Quantum (record { first = 0; size = 2 }) ∷ Classical (record { first = 0; size = 2 }) ∷ [];
  qubits = 2;
  bits = 2;
  tree = record { quantum = []; classical = []; gates = []; statements = [] };
}

-- places 0 to 5
abbrev pub some_words : Lexed
some_words = text_of (codes "cx" ∷ codes "q" ∷ codes "1" ∷ codes "2" ∷ codes "c" ∷ codes "w" ∷ [])

-- which rules of names are broken, and where
pub record NameRows : Type 0 where
  -- `cx q[1],q[1];`
  pub same_qubit : first_fault (named_faults (gate_named two (codes "cx")) 0 (λ g. call_faults some_words two 0 g (arguments.Single 1 2 ∷ arguments.Single 1 2 ∷ []))) ≡ Some (record { at = 0; kind = SameQubit })
  -- `cx q,q[1];`
  pub broadcast_twice : first_fault (named_faults (gate_named two (codes "cx")) 0 (λ g. call_faults some_words two 0 g (arguments.Whole 1 ∷ arguments.Single 1 2 ∷ []))) ≡ Some (record { at = 0; kind = SameQubit })
  -- `cx q[2],w[1];`: an unknown register goes before an index past its end
  pub unknown_register : first_fault (named_faults (gate_named two (codes "cx")) 0 (λ g. call_faults some_words two 0 g (arguments.Single 1 3 ∷ arguments.Single 5 2 ∷ []))) ≡ Some (record { at = 5; kind = Undeclared })
  -- `cx q[2];`: an index past the end goes before the number of arguments
  pub past_the_end : first_fault (named_faults (gate_named two (codes "cx")) 0 (λ g. call_faults some_words two 0 g (arguments.Single 1 3 ∷ []))) ≡ Some (record { at = 3; kind = Index })
  -- `q ..;`: a register is no gate
  pub no_gate : first_fault (named_faults (gate_named two (codes "q")) 0 (λ g. call_faults some_words two 0 g [])) ≡ Some (record { at = 0; kind = Unknown })
  -- `measure q[1] -> c;`
  pub one_into_all : first_fault (measure_faults some_words two 0 (arguments.Single 1 2) (arguments.Whole 4)) ≡ Some (record { at = 0; kind = Sizes })
  -- a text may declare `swap` itself, before the include and after it, but not `h` after it
  pub own_swap : is_declared two (codes "swap") ≡ false
  pub own_h : is_declared two (codes "h") ≡ true
  -- the include a second time, after a gate `h`, and after a gate `swap`
  pub second_include : bars_include two ≡ true
  pub behind_h : bars_include (record nothing_known { names = codes "h" ∷ [] }) ≡ true
  pub behind_swap : bars_include (record nothing_known { names = codes "swap" ∷ [] }) ≡ false
  -- `gate w q,q ..`: the second formal name
  pub formal_twice : first_fault (head_faults some_words two 0 5 (1 ∷ 1 ∷ [])) ≡ Some (record { at = 1; kind = Declared })
  -- 1,024 qubits, and one more
  pub most_qubits : qubits_pass nothing_known 1024 ≡ false
  pub past_most : qubits_pass nothing_known 1025 ≡ true
