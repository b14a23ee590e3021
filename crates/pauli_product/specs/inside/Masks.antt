-- The letters of a product in words of 64 qubits.
use Rattle.std.specs.Prelude.{◌≡◌, ℕ, ◌+◌, ◌*◌, ◌<◌, ◌≤◌, List, length, take, flat_map, slice_index_or}
use Rattle.pauli_product.specs.declared.Letter.{Letter}
use Rattle.pauli_product.specs.declared.Letter.TheVariants.{I}
use Rattle.pauli_product.specs.declared.word.Word.{Word}
use Rattle.pauli_product.specs.inside.Words.{word_letters}

-- the letters of all words, those of the first word first
abbrev pub all_letters : List Word → List Letter
all_letters words = flat_map word_letters words

-- the letters of the first n qubits
abbrev pub first_letters : ℕ → List Word → List Letter
first_letters n words = take n (all_letters words)

-- from qubit n on each letter is I
abbrev pub IsClearFrom : ℕ → List Letter → Type 0
IsClearFrom n letters = (k : ℕ) → n ≤ k → slice_index_or letters k I ≡ I

-- as many words as n qubits take, with I past the last qubit
pub record HoldsQubits (n : ℕ) (words : List Word) : Type 0 where
  pub few : n ≤ 1024
  pub enough : n ≤ 64 * length words
  pub tight : 64 * length words < n + 64
  pub clear : IsClearFrom n (all_letters words)
