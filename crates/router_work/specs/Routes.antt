-- A board that workers brought forward.
use Rattle.std.specs.Prelude.{◌≡◌, ◌⊎◌, ℕ, ◌+◌, ◌<◌, ◌≤◌, List, ◌++◌, All}
use Rattle.source_model.specs.declared.Given.{Given}
use Rattle.board_core.specs.declared.Noted.{Noted}
use Rattle.board_core.specs.Position.{Position, with_history, IsLegal}
use Rattle.router_work.specs.Passing.{IsRouted, IsStepOf}

-- workers 1 to k are routers, and the next ones, 16 at most, make steps of one factory each
abbrev pub IsByWorker : List Given → ℕ → Noted → Type 0
IsByWorker given k n =
    ((1 ≤ n.by) × (n.by ≤ k) × IsRouted given n.entry)
    ⊎ ((k < n.by) × (n.by ≤ k + 16) × ((f : ℕ) × IsStepOf f n.entry))

-- the board c is b after further entries by workers, and its history is legal
pub record Routes (given : List Given) (k : ℕ) (b c : Position) : Type 0 where
  pub added : List Noted
  pub is : c ≡ with_history b (b.history ++ added)
  pub by_workers : All (IsByWorker given k) added
  pub legal : IsLegal c
