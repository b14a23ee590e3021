-- What each step tells: of the step, the seat before, the number found and the seat after.
use Rattle.std.specs.Prelude.{◌≡◌, ◌≢◌, ℕ, ◌^◌, ◌<◌, ◌≤◌, List, [], ◌∷◌, length}
use Rattle.atomic_table.specs.Table.{Me, Step, rest}
use Rattle.board_core.specs.declared.Noted.{Noted}
use Rattle.board_core.specs.Position.{Position, with_history}
use Rattle.grid_lock.specs.declared.view.View.{View}
use Rattle.grid_lock.specs.Views.{Extends, IsSound, met, reading}
use Rattle.grid_lock.specs.inside.Views.{taking, counting, adding, freeing}

abbrev pub Sat : Type 0
Sat = Me Position View

abbrev pub Tells : Type 1
Tells = Step Position → Sat → ℕ → Sat → Type 0

-- what a pass learns as it takes the turn: the history continues what it knew, and it is sound with it
abbrev pub TakesUp : View → List Noted → Type 0
TakesUp v log = Extends log v.seen × (v.read ≤ length log) × IsSound (taking v log)

abbrev pub took : Tells
took st m r n = (r ≡ st.first → (log : List Noted) × TakesUp m.0 log × (n ≡ (taking m.0 log, (0, with_history m.0.opened log) ∷ m.1))) × (r ≢ st.first → n ≡ (met m.0, m.1))

abbrev pub counted : Tells
counted st m r n = (r ≡ length m.0.seen) × (n ≡ (counting m.0, m.1))

abbrev pub looked : Tells
looked st m r n = (m.0.read ≤ r) × (length m.0.seen ≤ r) × (n ≡ (reading m.0 r, m.1)) × (r < 2 ^ 32)

-- the history of the board in hand
abbrev pub history_of : List (ℕ × Position) → List Noted
history_of [] = []
history_of (x ∷ xs) = x.1.history

abbrev pub added : Tells
added st m r n = n ≡ (adding m.0 (history_of m.1), m.1)

abbrev pub freed : Tells
freed st m r n = n ≡ (freeing m.0, rest m.1)
