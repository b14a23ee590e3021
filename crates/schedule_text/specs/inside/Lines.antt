-- Words that are those of an entry, or of none.
use Rattle.std.specs.Prelude.{◌≡◌, ℕ, ◌≤◌, List, ◌∷◌, map, decimal, All}
use Rattle.board_core.specs.declared.Entry.{Entry}
use Rattle.schedule_text.specs.Text.{Version, one, two, entry_words, IsNumber, HasNumbers}
use Rattle.schedule_text.specs.Lines.{IsListed, IsShaped}

-- the words are those of the entry, which may stand in a line of the version
pub record IsWorded (v : Version) (words : List (List ℕ)) (e : Entry) : Type 0 where
  pub numbers : HasNumbers e
  pub shaped : IsShaped v e
  pub are : words ≡ entry_words e

-- the words are those of the cells
pub record IsCells (words : List (List ℕ)) (cells : List ℕ) : Type 0 where
  pub numbers : All IsNumber cells
  pub listed : IsListed cells
  pub are : words ≡ map decimal cells

-- the words are those of the entry in both versions
abbrev pub IsEntryOf : List (List ℕ) → Entry → Type 0
IsEntryOf words e = (v : Version) → IsWorded v words e

-- the words are those of no entry in either version
abbrev pub IsNoEntry : List (List ℕ) → Type 0
IsNoEntry words = (v : Version) (e : Entry) → IsWorded v words e → ⊥

-- a line's words begin with the number of the worker in version 2, and the number is 0 in version 1
abbrev pub Starts : Version → List (List ℕ) → ℕ → List (List ℕ) → Type 0
Starts one words by rest = (by ≡ 0) × (words ≡ rest)
Starts two words by rest = (by ≤ 63) × (words ≡ decimal by ∷ rest)
