-- A history that goes on from another one, and the table that it is complete for.
use Rattle.std.specs.Prelude.{◌≡◌, ℕ, ◌+◌, slice_get, List, [], ◌∷◌, ◌++◌, map, take, Some, unwrap_or, All}
use Rattle.source_model.specs.declared.Given.{Given}
use Rattle.board_core.specs.declared.Entry.{Entry}
use Rattle.board_core.specs.declared.Noted.{Noted}
use Rattle.board_core.specs.History.{History, delivered}
use Rattle.board_core.specs.Position.{Position, with_history, note}
use Rattle.finish_run.specs.Next.{Meeting, ComesNext}

-- these entries, each by worker 0
abbrev pub by_zero : List Entry → List Noted
by_zero es = map (λ e. note 0 e) es

-- the board after these further entries
abbrev pub behind : Position → List Entry → Position
behind b es = with_history b (b.history ++ by_zero es)

-- the board c is b after further entries by worker 0, each of which comes next
pub record GoesOn (Meets : Meeting) (given : List Given) (b c : Position) : Type 0 where
  pub added : List Entry
  pub is : c ≡ behind b added
  pub next : (n : ℕ) (e : Entry) → slice_get added n ≡ Some e → ComesNext Meets given (behind b (take n added)) e

-- the outcomes that a history delivers, and these everywhere else, from product p on
abbrev pub own_from : ℕ → History → List Given → List Given
own_from p h [] = []
own_from p h (g ∷ gs) = unwrap_or (delivered h p) g ∷ own_from (p + 1) h gs

-- the history's own deliveries, and the handed-in outcomes elsewhere
abbrev pub own_or_given : History → List Given → List Given
own_or_given h given = own_from 0 h given

-- a new board that is brought to its end has entries by worker 0 alone
abbrev pub NewBoardsAreByZero : Type 0
NewBoardsAreByZero = (b c : Position) (added : List Entry) → b.history ≡ [] → c ≡ behind b added → All (λ n. n.by ≡ 0) c.history
