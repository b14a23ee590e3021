-- What a seat has in hand between two steps.
use Rattle.std.specs.Prelude.{◌≡◌, ℕ, true, false, List, [], ◌∷◌, ◌++◌}
use Rattle.board_core.specs.declared.Noted.{Noted}
use Rattle.board_core.specs.declared.Entry.{Entry}
use Rattle.board_core.specs.Position.{Position, with_history, note, IsLegal}
use Rattle.source_model.specs.declared.Given.{Given}
use Rattle.grid_lock.specs.declared.view.View.{View}
use Rattle.grid_lock.specs.inside.Views.{taking, counting, adding}
use Rattle.grid_lock.specs.inside.Plays.{Sat, TakesUp, history_of}
use Rattle.grid_lock.specs.Answers.{AcceptsOutcome}

-- it has no board, and has not ended
abbrev pub IsIdle : Sat → Type 0
IsIdle m = (m.0.ended ≡ false) × (m.0.holding ≡ false) × (m.1 ≡ [])

-- it has the turn, and the board with this history
abbrev pub HasBoard : Sat → List Noted → Type 0
HasBoard m log =
    (m.0.ended ≡ false) × (m.0.holding ≡ true) × (m.1 ≡ (0, with_history m.0.opened log) ∷ [])

-- it had none, and has taken the turn and the board
abbrev pub HasTaken : Sat → Sat → Type 0
HasTaken m n =
    TakesUp m.0 n.0.seen
    × (n ≡ (counting (taking m.0 n.0.seen), (0, with_history m.0.opened n.0.seen) ∷ []))

-- it has the turn, and the board has one entry of its own more than it has seen
abbrev pub HasAdded : Sat → Type 0
HasAdded m =
    (e : Noted) × HasBoard m (m.0.seen ++ e ∷ []) × (e.by ≡ m.0.number)
    × IsLegal (with_history m.0.opened (m.0.seen ++ e ∷ []))

-- what it knows once the entry of the board in hand is counted
abbrev pub with_own : Sat → View
with_own m = adding m.0 (history_of m.1)

-- the board with all that was seen
abbrev pub board_of : Sat → Position
board_of m = with_history m.0.opened m.0.seen

-- the board in hand has the entry e more, under this number
abbrev pub GainsEntry : Sat → Sat → ℕ → Entry → Type 0
GainsEntry m n by e =
    (n.0 ≡ m.0) × (n.1 ≡ (0, with_history m.0.opened (m.0.seen ++ note by e ∷ [])) ∷ [])
    × IsLegal (with_history m.0.opened (m.0.seen ++ note by e ∷ []))

-- it has the entry of an outcome more
abbrev pub GainsOutcome : Sat → Sat → ℕ → ℕ → Given → ℕ → Type 0
GainsOutcome m n by p given place =
    (e : Entry) × GainsEntry m n by e × AcceptsOutcome (board_of m) p given e place
