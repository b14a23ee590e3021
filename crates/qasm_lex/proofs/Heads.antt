-- Heads have bytes.
use Rattle.std.proofs.Common.{◌≡◌, ℕ, ◌<◌, Bool, true, List, [], ◌∷◌, length, get_or, arith}
use Rattle.std.specs.List.{prefix_len}
use Rattle.qasm_lex.specs.Tokens.{is_digit, starts_word, is_word_byte}

pub some_begin : (p : ℕ → Bool) (bs : List ℕ) → 0 < length bs → p (get_or bs 0 0) ≡ true → 0 < prefix_len p bs
some_begin p [] lt e = absurd (omega arith)
some_begin p (b ∷ bs) lt e = rw e (omega arith)

pub digit_begins : (bs : List ℕ) → 0 < length bs → is_digit (get_or bs 0 0) ≡ true → 0 < prefix_len is_digit bs
digit_begins bs lt e = some_begin is_digit bs lt e

pub word_begins : (bs : List ℕ) → 0 < length bs → starts_word (get_or bs 0 0) ≡ true → 0 < prefix_len is_word_byte bs
unfolding is_word_byte
word_begins [] lt e = absurd (omega arith)
word_begins (b ∷ bs) lt e = rw e (omega arith)
