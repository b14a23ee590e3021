-- Names of registers and gates in circuits: the identifiers of OpenQASM 2.0, and those that begin with an underscore.
use Rattle.std.specs.Prelude.{ℕ, Bool, false, not, ◌==◌, ◌&&◌, ◌||◌, nat_le, IsTrue, List, [], ◌∷◌, codes}
use Rattle.std.specs.List.{list_all, list_any}
use Rattle.std.specs.Str.{bytes_eq}

abbrev pub is_lower : ℕ → Bool
is_lower b = nat_le 97 b && nat_le b 122

-- a letter, a digit or an underscore, in ASCII
abbrev pub is_word_byte : ℕ → Bool
is_word_byte b = is_lower b || (nat_le 65 b && nat_le b 90) || (nat_le 48 b && nat_le b 57) || b == 95

abbrev pub statement_words : List (List ℕ)
statement_words = codes "include" ∷ codes "qreg" ∷ codes "creg" ∷ codes "gate" ∷ codes "opaque" ∷ codes "measure" ∷ codes "reset" ∷ codes "barrier" ∷ codes "if" ∷ []

abbrev pub expression_words : List (List ℕ)
expression_words = codes "pi" ∷ codes "sin" ∷ codes "cos" ∷ codes "tan" ∷ codes "exp" ∷ codes "ln" ∷ codes "sqrt" ∷ []

-- a word that is no name
abbrev pub is_keyword : List ℕ → Bool
is_keyword word = list_any (bytes_eq word) statement_words || list_any (bytes_eq word) expression_words

-- a lower-case letter or an underscore stands first
abbrev pub begins_as_name : List ℕ → Bool
begins_as_name [] = false
begins_as_name (b ∷ bs) = is_lower b || b == 95

-- a lower-case letter or an underscore, followed by letters, digits and underscores, and no keyword
unfoldable pub is_name : List ℕ → Bool
is_name word = begins_as_name word && list_all is_word_byte word && not (is_keyword word)

abbrev pub IsName : List ℕ → Type 0
IsName word = IsTrue (is_name word)
