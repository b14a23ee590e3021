-- The tokens of a text: blanks and comments separate them, and the longest one is taken.
use Rattle.std.specs.Prelude.{◌≡◌, ℕ, zero, suc, Bool, ◌+◌, ◌<◌, ◌≤◌, ◌==◌, ◌&&◌, ◌||◌, not, nat_le, nat_lt, if◌then◌else◌, List, [], ◌∷◌, ◌++◌, length, take, drop, slice_index, codes, decimal, Result, Ok, Err}
use Rattle.std.specs.List.{prefix_len, list_any}
use Rattle.std.specs.Str.{bytes_eq}
use Rattle.std.specs.Str.Parse.{digits_value}
use Rattle.qasm_lex.specs.declared.TokenKind.TheVariants as kinds
use Rattle.qasm_lex.specs.declared.fault.FaultKind.TheVariants as faults
use Rattle.qasm_lex.specs.declared.Token.{Token}
use Rattle.qasm_lex.specs.declared.Head.{Head}
use Rattle.qasm_lex.specs.declared.Head.TheVariants as heads
use Rattle.qasm_lex.specs.declared.fault.CircuitFault.{CircuitFault}
use Rattle.qasm_lex.specs.declared.fault.CircuitFault.TheVariants as circuits

abbrev pub is_within : ℕ → ℕ → ℕ → Bool
is_within low high b = nat_le low b && nat_le b high

-- an ASCII digit
unfoldable pub is_digit : ℕ → Bool
is_digit b = is_within 48 57 b

-- a letter or an underscore
unfoldable pub starts_word : ℕ → Bool
starts_word b = is_within 97 122 b || is_within 65 90 b || b == 95

-- a letter, an underscore or a digit
unfoldable pub is_word_byte : ℕ → Bool
is_word_byte b = starts_word b || is_digit b

-- a space, a tab or a carriage return
unfoldable pub is_blank : ℕ → Bool
is_blank b = b == 32 || b == 9 || b == 13

-- a symbol of one byte
unfoldable pub is_symbol : ℕ → Bool
is_symbol b = list_any (λ s. b == s) (codes ";,(){}[]+-*/^")

-- how many digits stand at the front
abbrev pub digits : List ℕ → ℕ
digits bs = prefix_len is_digit bs

-- 1 where `+` or `-` stands, and 0 where there is no sign
unfoldable pub sign_len : List ℕ → ℕ
sign_len bs = if slice_index bs 0 == 43 || slice_index bs 0 == 45 then 1 else 0

-- the length of an exponent (`e` or `E`, a sign or none, digits), and 0 where there is none
unfoldable pub exponent_len : List ℕ → ℕ
exponent_len bs =
    let before = 1 + sign_len (drop 1 bs) in
    if (slice_index bs 0 == 101 || slice_index bs 0 == 69) && not (digits (drop before bs) == 0) then before + digits (drop before bs) else 0

-- the length of a point and digits, and 0 where there are none
unfoldable pub fraction_len : List ℕ → ℕ
fraction_len bs = if slice_index bs 0 == 46 && not (digits (drop 1 bs) == 0) then 1 + digits (drop 1 bs) else 0

-- digits that are the decimal of their value, below 2 ^ 32: `0`, or no leading zero
unfoldable pub is_whole : List ℕ → Bool
is_whole run = nat_lt (digits_value 10 run) 4294967296 && bytes_eq run (decimal (digits_value 10 run))

-- a run of digits is the head of a real, or a whole number, or no token
unfoldable pub number_head : List ℕ → Head
number_head bs =
    let front = digits bs in
    let fraction = fraction_len (drop front bs) in
    if fraction == 0 then (if is_whole (take front bs) then heads.Token kinds.Whole front else heads.Bad)
    else heads.Token kinds.Real (front + fraction + exponent_len (drop (front + fraction) bs))

-- 34 is a quote, 10 a line feed: a quoted text runs to the next quote on its line
unfoldable pub quoted_head : List ℕ → Head
quoted_head bs =
    let inner = prefix_len (λ b. not (b == 34 || b == 10)) (drop 1 bs) in
    if slice_index (drop 1 bs) inner == 34 then heads.Token kinds.Quoted (inner + 2) else heads.Bad

-- `->` and `==` are one token each
unfoldable pub symbol_head : List ℕ → Head
symbol_head bs =
    if (slice_index bs 0 == 45 && slice_index bs 1 == 62) || (slice_index bs 0 == 61 && slice_index bs 1 == 61) then heads.Token kinds.Symbol 2
    else if is_symbol (slice_index bs 0) then heads.Token kinds.Symbol 1 else heads.Bad

-- what stands at the head of a text that isn't empty; 10 is a line feed, 47 a slash, 34 a quote; a comment leaves its line feed
unfoldable pub head_of : List ℕ → Head
head_of bs =
    let b = slice_index bs 0 in
    if b == 10 then heads.Feed
    else if is_blank b then heads.Blank 1
    else if b == 47 && slice_index bs 1 == 47 then heads.Blank (prefix_len (λ c. not (c == 10)) bs)
    else if starts_word b then heads.Token kinds.Word (prefix_len is_word_byte bs)
    else if is_digit b then number_head bs
    else if b == 34 then quoted_head bs
    else symbol_head bs

-- tokens before those of the rest, where the rest has no fault
abbrev pub with_front : List Token → Result (List Token) CircuitFault → Result (List Token) CircuitFault
with_front ts (Ok us) = Ok (ts ++ us)
with_front ts (Err e) = Err e

-- the tokens of the rest of a text, from a byte and a line on, or the line of the first byte that begins none; each turn takes a byte
unfoldable pub tokens_from : ℕ → ℕ → ℕ → List ℕ → Result (List Token) CircuitFault
tokens_from zero at line bs = Ok []
tokens_from (suc turns) at line [] = Ok []
tokens_from (suc turns) at line (b ∷ bs) =
    elim (head_of (b ∷ bs)) [
      | heads.Feed ↦ tokens_from turns (at + 1) (line + 1) bs
      | heads.Blank n ↦ tokens_from turns (at + n) line (drop n (b ∷ bs))
      | heads.Token kind n ↦ with_front (record { kind = kind; start = at; end = at + n; line = line } ∷ []) (tokens_from turns (at + n) line (drop n (b ∷ bs)))
      | heads.Bad ↦ Err (circuits.At line faults.Token)
    ]

-- the tokens of a text, or its fault; it has at most 4 MiB
unfoldable pub tokens_of : List ℕ → Result (List Token) CircuitFault
tokens_of text = if nat_lt 4194304 (length text) then Err (circuits.At 0 faults.TooLong) else tokens_from (length text + 1) 0 1 text

-- what was answered is what the definition gives, unless memory ran out
abbrev pub Fails : {Y : Type 0} → CircuitFault → Result Y CircuitFault → Type 0
Fails circuits.Memory given = Unit {0}
Fails (circuits.At line kind) given = given ≡ Err (circuits.At line kind)

abbrev pub Gives : {X Y : Type 0} → (X → Y) → Result X CircuitFault → Result Y CircuitFault → Type 0
Gives view (Ok x) given = given ≡ Ok (view x)
Gives view (Err e) given = Fails e given

-- a token has a byte at least, and its bytes stand in the text
pub record IsPlaced (text : List ℕ) (token : Token) : Type 0 where
  pub some : token.start < token.end
  pub within : token.end ≤ length text
