-- Lines that a line feed ends, from a place of a text on.
use Rattle.std.specs.Prelude.{◌≡◌, ◌⊎◌, ℕ, Bool, ◌<◌, ◌≤◌, List, [], ◌∷◌, ◌++◌, drop, take, length, slice_get, Some}
use Rattle.source_model.specs.declared.Register.{Register}
use Rattle.source_model.specs.Circuits.{IsOneLine}
use Rattle.schedule_text.specs.Text.{header_line, bits_line, bits_text}
use Rattle.schedule_text.specs.Lines.{version_of}

-- a line begins at a place, a line feed ends it, and the next one begins at the next place
pub record IsEnded (text : List ℕ) (at : ℕ) (line : List ℕ) (next : ℕ) : Type 0 where
  pub text_is : drop at text ≡ line ++ 10 ∷ drop next text
  pub one_line : IsOneLine line
  pub forward : at < next
  pub within : next ≤ length text

-- the first line is the header of a version
pub record IsHeader (text : List ℕ) (version next : ℕ) : Type 0 where
  pub numbered : (version ≡ 1) ⊎ (version ≡ 2)
  pub text_is : text ≡ header_line (version_of version) ++ 10 ∷ drop next text
  pub within : next ≤ length text

-- the lines of the first k registers' bits, and after them neither the next register's line nor, after the last one's, the text's end
pub record StopsAt (registers : List Register) (bit : ℕ → Bool) (text : List ℕ) (k : ℕ) : Type 0 where
  pub few : k ≤ length registers
  pub behind : List ℕ
  pub text_is : text ≡ bits_text (take k registers) bit ++ behind
  pub other : (r : Register) (more : List ℕ) → slice_get registers k ≡ Some r → behind ≡ bits_line bit r ++ 10 ∷ more → ⊥
  pub left : k ≡ length registers → behind ≡ [] → ⊥
