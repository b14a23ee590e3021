-- Where a step of a factory is next.
use Rattle.std.specs.Prelude.{ℕ, ◌<◌}
use Rattle.board_core.specs.Position.{Position}
use Rattle.finish_run.specs.Next.{IsTurnOf, NoStates, IsRotation}

-- a rotation is next, and no factory has a ready state
pub record WantsState (b : Position) (p : ℕ) : Type 0 where
  pub turn : IsTurnOf b p
  pub rotation : IsRotation b p
  pub none : NoStates b

abbrev pub NoneBelow : (ℕ → Type 0) → ℕ → Type 0
NoneBelow P n = (p : ℕ) → p < n → P p → ⊥
