use Rattle.std.proofs.Common.{◌≡◌, ◌+◌, ◌≤◌, ◌++◌, take, drop, vec_len, flat_map}
use Rattle.std.specs.Prelude.{vec_capacity}
use Rattle.pauli_product.specs.Spelling.{letter_text}
use Rattle.pauli_product.specs.inside.Masks.{all_letters}
use Rattle.pauli_product.proofs.print_words.Given as goal

-- with the letters that are left the text is whole, and there is room for it
abbrev pub invariant-loop-word : goal.invariant-loop-word
invariant-loop-word l = record {
  text : l.into.items ++ flat_map letter_text (take l.left (all_letters (drop l.word-index l.words))) ≡ l.fn.into.items ++ flat_map letter_text (take l.qubits (all_letters l.words));
  room : vec_len l.into + l.left ≤ vec_capacity l.into;
}
