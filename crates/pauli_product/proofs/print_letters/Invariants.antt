use Rattle.std.proofs.Common.{◌≡◌, ◌+◌, ◌++◌, take, vec_len, flat_map}
use Rattle.std.specs.Prelude.{vec_capacity}
use Rattle.pauli_product.specs.Spelling.{letter_text}
use Rattle.pauli_product.specs.inside.Words.{word_letters}
use Rattle.pauli_product.proofs.print_letters.Given as goal

-- the letters so far stand
abbrev pub invariant-loop-i : goal.invariant-loop-i
invariant-loop-i l = record {
  text : l.into.items ≡ l.fn.into.items ++ flat_map letter_text (take l.i (word_letters l.word));
  len : vec_len l.into ≡ vec_len l.fn.into + l.i;
  capacity : vec_capacity l.into ≡ vec_capacity l.fn.into;
}
