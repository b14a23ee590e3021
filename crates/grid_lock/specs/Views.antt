-- What a pass knows, and when it is sound by itself.
use Rattle.std.specs.Prelude.{◌≡◌, ℕ, ◌+◌, ◌<◌, ◌≤◌, false, ◌==◌, List, [], ◌++◌, length}
use Rattle.std.specs.List.{filter}
use Rattle.board_core.specs.declared.Noted.{Noted}
use Rattle.board_core.specs.Position.{Position, with_history, IsLegal}
use Rattle.grid_lock.specs.declared.view.View.{View}

-- the entries of one pass, in order
abbrev pub entries_by : ℕ → List Noted → List Noted
entries_by n log = filter (λ (e : Noted). e.by == n) log

-- the log is what was seen, with more entries or none after it
abbrev pub Extends : List Noted → List Noted → Type 0
Extends log seen = (more : List Noted) × (log ≡ seen ++ more)

-- a legal history that extends all that the pass has seen, and has at least as many entries as it was told
pub record Continues (v : View) (log : List Noted) : Type 0 where
  pub legal : IsLegal (with_history v.opened log)
  pub begins : Extends log v.seen
  pub read : v.read ≤ length log

-- pass 0 at the start: it has seen the board's history, and all of it counts as its own
abbrev pub opener : Position → View
opener p = record {
  number = 0;
  opened = p;
  seen = p.history;
  mine = p.history;
  met = 0;
  loads = 0;
  turns = 0;
  read = 0;
  holding = false;
  made = 0;
  ended = false;
  kept = [];
}

-- the compare and exchange read the turn as held
abbrev pub met : View → View
met v = record v { met = v.met + 1 }

-- it loaded the length n and holds no turn
abbrev pub reading : View → ℕ → View
reading v n = record v { loads = v.loads + 1; read = n }

-- pass 0 after a split, and the new pass
abbrev pub dealing : View → View
dealing v = record v { made = v.made + 1 }

abbrev pub newcomer : View → View
newcomer v = record {
  number = v.made + 1;
  opened = v.opened;
  seen = v.seen;
  mine = [];
  met = 0;
  loads = 0;
  turns = 0;
  read = 0;
  holding = false;
  made = 0;
  ended = false;
  kept = [];
}

-- what a pass has seen is legal, its own entries there are its list, and what pass 0 has seen has no number that was not
-- given
pub record IsSound (v : View) : Type 0 where
  pub legal : IsLegal (with_history v.opened v.seen)
  pub own : entries_by v.number v.seen ≡ v.mine
  pub later : v.number ≡ 0 → (n : ℕ) → v.made < n → entries_by n v.seen ≡ []
