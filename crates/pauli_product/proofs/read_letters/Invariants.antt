use Rattle.std.proofs.Common.{◌≡◌, ◌-◌, ◌+◌, ◌≤◌, length, take, vec_len, flat_map}
use Rattle.std.specs.Prelude.{vec_capacity}
use Rattle.pauli_product.specs.Spelling.{letter_text}
use Rattle.pauli_product.proofs.read_letters.Given as goal

-- the letters spell the bytes so far, with room for the rest
abbrev pub invariant-loop-byte : goal.invariant-loop-byte
invariant-loop-byte l = record {
  read : take l.byte-index l.text ≡ flat_map letter_text l.letters.items;
  room : vec_len l.letters + (length l.text - l.byte-index) ≤ vec_capacity l.letters;
}
