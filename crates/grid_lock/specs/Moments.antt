-- What holds of a grid at every moment, in plain words.
use Rattle.std.specs.Prelude.{◌≡◌, ℕ, ◌≤◌, ◌⊎◌, true, false, List, [], ◌∷◌, length, slice_index}
use mathlib.Core.Option.{some}
use lib.ListN.{get_elem?}
use Rattle.atomic_table.specs.Table.{State}
use Rattle.board_core.specs.declared.Noted.{Noted}
use Rattle.board_core.specs.Position.{Position, with_history, IsLegal}
use Rattle.grid_lock.specs.declared.view.View.{View}
use Rattle.grid_lock.specs.Views.{entries_by, Extends}

-- the turn: 0 where it is free, and 1 where it is held
abbrev pub turn_word : State Position View → ℕ
turn_word s = slice_index s.words 0

-- how many entries the history has
abbrev pub length_word : State Position View → ℕ
length_word s = slice_index s.words 1

-- pass j has not ended, and knows v
abbrev pub IsPass : State Position View → ℕ → View → Type 0
IsPass s j v = (get_elem? s.views j ≡ some v) × (v.ended ≡ false)

-- of what any two passes have seen, one extends the other
abbrev pub HasOneHistory : State Position View → Type 0
HasOneHistory s =
    (i j : ℕ) (v w : View) → IsPass s i v → IsPass s j w →
    Extends v.seen w.seen ⊎ Extends w.seen v.seen

-- no pass has seen more entries than there are, and none was told more
abbrev pub IsWithinLength : State Position View → Type 0
IsWithinLength s =
    (j : ℕ) (v : View) → IsPass s j v →
    (length v.seen ≤ length_word s) × (v.read ≤ length_word s)

-- the board is in the slot: its history is legal, has the length that the word says, and extends what each pass has seen
abbrev pub IsHome : Position → State Position View → Type 0
IsHome start s =
    (log : List Noted) × (s.homes ≡ some (with_history start log) ∷ [])
    × IsLegal (with_history start log) × (length log ≡ length_word s)
    × ((j : ℕ) (v : View) → IsPass s j v → Extends log v.seen)

-- while a pass holds the turn, it has seen all entries
abbrev pub HolderHasSeenAll : State Position View → Type 0
HolderHasSeenAll s =
    (j : ℕ) (v : View) → IsPass s j v → v.holding ≡ true →
    (turn_word s ≡ 1) × (length v.seen ≡ length_word s)

-- one pass at most holds the turn
abbrev pub OneHolds : State Position View → Type 0
OneHolds s =
    (i j : ℕ) (v w : View) → IsPass s i v → IsPass s j w →
    v.holding ≡ true → w.holding ≡ true → i ≡ j

-- the entries under a pass's number are its own list
abbrev pub OwnAreMine : State Position View → Type 0
OwnAreMine s = (j : ℕ) (v : View) → IsPass s j v → entries_by j v.seen ≡ v.mine

pub record Moment (start : Position) (s : State Position View) : Type 0 where
  pub one : HasOneHistory s
  pub within : IsWithinLength s
  pub home : turn_word s ≡ 0 → IsHome start s
  pub holder : HolderHasSeenAll s
  pub alone : OneHolds s
  pub own : OwnAreMine s
