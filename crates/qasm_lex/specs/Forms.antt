-- The forms of tokens (OpenQASM 2.0, section 4), and a text as gaps and tokens in turn.
use Rattle.std.specs.Prelude.{◌≡◌, ◌⊎◌, ℕ, ◌+◌, ◌<◌, ◌≤◌, ◌^◌, ◌==◌, ◌||◌, Bool, not, IsTrue, List, [], ◌∷◌, ◌++◌, length, codes, decimal}
use Rattle.std.specs.List.{list_all}
use Rattle.qasm_lex.specs.declared.Token.{Token}
use Rattle.qasm_lex.specs.declared.TokenKind.{TokenKind}
use Rattle.qasm_lex.specs.declared.TokenKind.TheVariants as kinds
use Rattle.qasm_lex.specs.Tokens.{is_digit, is_symbol, is_blank, is_word_byte, starts_word}

-- ---- tokens

-- one digit or more
abbrev pub IsDigits : List ℕ → Type 0
IsDigits bs = (0 < length bs) × IsTrue (list_all is_digit bs)

-- a letter or an underscore, then letters, digits and underscores
abbrev pub IsWord : List ℕ → Type 0
IsWord [] = ⊥
IsWord (b ∷ bs) = IsTrue (starts_word b) × IsTrue (list_all is_word_byte bs)

-- the decimal of a number below 2 ^ 32
abbrev pub IsWhole : List ℕ → Type 0
IsWhole bs = (v : ℕ) × (v < 2 ^ 32) × (bs ≡ decimal v)

-- no sign, or one
abbrev pub IsSign : List ℕ → Type 0
IsSign bs = (bs ≡ []) ⊎ (bs ≡ codes "+") ⊎ (bs ≡ codes "-")

-- none, or `e` or `E`, a sign or none, and digits
abbrev pub IsExponent : List ℕ → Type 0
IsExponent [] = Unit {0}
IsExponent (b ∷ bs) =
    ((b ≡ 101) ⊎ (b ≡ 69))
    × ((sign power : List ℕ) × IsSign sign × IsDigits power × (bs ≡ sign ++ power))

-- digits, a point and digits, then an exponent or none
pub record IsReal (bs : List ℕ) : Type 0 where
  pub front : List ℕ
  pub places : List ℕ
  pub exponent : List ℕ
  pub whole : IsDigits front
  pub fraction : IsDigits places
  pub power : IsExponent exponent
  pub is : bs ≡ front ++ (codes "." ++ (places ++ exponent))

-- neither a quote, which is 34, nor a line feed, which is 10
abbrev pub is_inner : ℕ → Bool
is_inner b = not (b == 34 || b == 10)

-- a quote, bytes of one line that aren't quotes, and a quote
abbrev pub IsQuoted : List ℕ → Type 0
IsQuoted bs = (inner : List ℕ) × IsTrue (list_all is_inner inner) × (bs ≡ 34 ∷ inner ++ 34 ∷ [])

-- `->`, `==`, or a symbol of one byte
abbrev pub IsSymbol : List ℕ → Type 0
IsSymbol bs =
    (bs ≡ codes "->") ⊎ (bs ≡ codes "==") ⊎ ((b : ℕ) × IsTrue (is_symbol b) × (bs ≡ b ∷ []))

abbrev pub IsToken : TokenKind → List ℕ → Type 0
IsToken kinds.Word bs = IsWord bs
IsToken kinds.Whole bs = IsWhole bs
IsToken kinds.Real bs = IsReal bs
IsToken kinds.Quoted bs = IsQuoted bs
IsToken kinds.Symbol bs = IsSymbol bs

-- no longer prefix of the text is a token
abbrev pub IsLongest : List ℕ → List ℕ → Type 0
IsLongest bytes text = (kind : TokenKind) (more rest : List ℕ) →
    IsToken kind more → text ≡ more ++ rest → length more ≤ length bytes

-- ---- texts

-- the line ends here: at a line feed, or at the end of the text
abbrev pub EndsLine : List ℕ → Type 0
EndsLine [] = Unit {0}
EndsLine (b ∷ bs) = b ≡ 10

-- the rest of a text, from a place and a line on, is gaps and these tokens in turn: a gap is line
-- feeds, blanks, and comments from `//` to the end of their line
pub data AreTokens : ℕ → ℕ → List ℕ → List Token → Type 0 where
  ended : (at line : ℕ) → AreTokens at line [] []
  feed : (at line : ℕ) (rest : List ℕ) (ts : List Token) →
      AreTokens (at + 1) (line + 1) rest ts → AreTokens at line (10 ∷ rest) ts
  blank : (at line b : ℕ) (rest : List ℕ) (ts : List Token) → IsTrue (is_blank b) →
      AreTokens (at + 1) line rest ts → AreTokens at line (b ∷ rest) ts
  comment : (at line : ℕ) (bytes rest : List ℕ) (ts : List Token) →
      IsTrue (list_all (λ b. not (b == 10)) bytes) → EndsLine rest →
      AreTokens (at + (2 + length bytes)) line rest ts →
      AreTokens at line (codes "//" ++ bytes ++ rest) ts
  token : (at line : ℕ) (kind : TokenKind) (bytes rest : List ℕ) (ts : List Token) →
      IsToken kind bytes → IsLongest bytes (bytes ++ rest) →
      AreTokens (at + length bytes) line rest ts →
      AreTokens at line (bytes ++ rest)
      (record { kind = kind; start = at; end = at + length bytes; line = line } ∷ ts)
