-- A text with its tokens, which have places from 0 on.
use Rattle.std.specs.Prelude.{ℕ, List, [], slice_get, slice_range, if◌then◌else◌, Some, None}
use Rattle.std.specs.Str.Parse.{digits_value}
use Rattle.qasm_lex.specs.declared.Token.{Token}
use Rattle.qasm_lex.specs.Tokens.{is_whole}
use Rattle.qasm_parse.specs.Words.{line_at}

pub record Lexed : Type 0 where
  pub text : List ℕ
  pub tokens : List Token

-- the bytes of the token at a place
abbrev pub word_at : Lexed → ℕ → List ℕ
word_at x at = elim (slice_get x.tokens at) [ None ↦ [] | Some t ↦ slice_range x.text t.start t.end ]

-- the value of a whole number
abbrev pub number_of : List ℕ → ℕ
number_of word = if is_whole word then digits_value 10 word else 0

abbrev pub number_at : Lexed → ℕ → ℕ
number_at x at = number_of (word_at x at)

-- the line of the token at a place, or of the end
abbrev pub line_of : Lexed → ℕ → ℕ
line_of x at = line_at x.text x.tokens at

-- where the token at a place begins and ends in the text
abbrev pub start_of : Lexed → ℕ → ℕ
start_of x at = elim (slice_get x.tokens at) [ None ↦ 0 | Some t ↦ t.start ]

abbrev pub end_of : Lexed → ℕ → ℕ
end_of x at = elim (slice_get x.tokens at) [ None ↦ 0 | Some t ↦ t.end ]
