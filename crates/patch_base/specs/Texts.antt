-- Texts of lines, and lines of words.
use Rattle.std.specs.Prelude.{◌≡◌, ℕ, Bool, true, not, ◌+◌, ◌==◌, ◌&&◌, if◌then◌else◌, List, [], ◌∷◌, drop, codes}
use Rattle.std.specs.List.{position_or_len, join_with_byte, slice_split, onto_first}

-- the lines of a text, without their line feeds; a last line needs none
abbrev pub lines : List ℕ → List (List ℕ)
lines [] = []
lines (b ∷ bs) = if b == 10 then ([] ∷ lines bs) else onto_first b (lines bs)

-- the place of the first line feed of a text from a place on, or the text's length
abbrev pub line_end : List ℕ → ℕ → ℕ
line_end text at = at + position_or_len (λ b. b == 10) (drop at text)

-- words with exactly one space between each two
abbrev pub spaced : List (List ℕ) → List ℕ
spaced ws = join_with_byte 32 ws

-- the pieces of a line between its spaces, one more than it has spaces
abbrev pub words : List ℕ → List (List ℕ)
words line = slice_split (λ b. b == 32) line

-- no byte is a space
abbrev pub has_no_space : List ℕ → Bool
has_no_space [] = true
has_no_space (b ∷ bs) = not (b == 32) && has_no_space bs

-- a line that is passed over: it is empty, or begins with #
abbrev pub IsSkipped : List ℕ → Type 0
IsSkipped [] = Unit {0}
IsSkipped (b ∷ bs) = b ≡ 35

-- a truth value as a word
abbrev pub digit : Bool → List ℕ
digit b = if b then codes "1" else codes "0"
