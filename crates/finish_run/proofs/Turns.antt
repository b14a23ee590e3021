-- The product whose turn it is, and looks at it.
use Rattle.std.proofs.Common.{◌≡◌, inl, inr, ℕ, ◌<◌, length, Option, Some, None, IsSome, refl, sym, ◌∙◌, subst}
use Rattle.patch_layout.specs.declared.look.Look.{Look}
use Rattle.board_core.specs.History.{claim_place, done_place}
use Rattle.board_core.specs.Laws.{ProductsOfLength}
use Rattle.board_core.specs.View.{LeastWait}
use Rattle.board_core.specs.Position.{Position, past}
use Rattle.board_core.specs.Shows.{IsMadeFor, Shows}
use Rattle.finish_run.specs.Next.{IsTurnOf}
use Rattle.finish_run.proofs.Past.{some_or_none}

pub turn_undone : (b : Position) (p : ℕ) → IsTurnOf b p → done_place (past b) p ≡ None
turn_undone b p t = t.2.0

pub turn_unclaimed : (b : Position) (p : ℕ) → IsTurnOf b p → claim_place (past b) p ≡ None
turn_unclaimed b p t = elim (some_or_none (claim_place (past b) p)) [
  | inl s ↦ absurd (t.0.0 p (s, t.2.0))
  | inr n ↦ n
]

-- all products before it are done
pub turn_done_before : (b : Position) (p q : ℕ) → IsTurnOf b p → q < p → IsSome (done_place (past b) q)
turn_done_before b p q t l = elim (some_or_none (done_place (past b) q)) [
  | inl s ↦ s
  | inr n ↦ absurd (t.2.1 q l n)
]

-- so it waits on none
pub turn_waits : (b : Position) (p : ℕ) → IsTurnOf b p → LeastWait b.job.products (past b) p None
turn_waits b p t = λ q w. t.2.1 q w.0 w.6

waits_none : (b : Position) (p : ℕ) (o : Option ℕ) → IsTurnOf b p → LeastWait b.job.products (past b) p o → o ≡ None
waits_none b p None t w = refl
waits_none b p (Some q) t w = absurd (turn_waits b p t q w.0)

pub look_waits : (b : Position) (p : ℕ) (look : Look) → IsTurnOf b p → Shows b p look → look.waits ≡ None
look_waits b p look t s = waits_none b p look.waits t s.waits

pub look_untaken : (b : Position) (p : ℕ) (look : Look) → IsTurnOf b p → Shows b p look → look.taken ≡ None
look_untaken b p look t s = s.taken ∙ turn_unclaimed b p t

-- a look that was made for a board still is
pub look_made : (b : Position) (p : ℕ) (old look : Look) → IsMadeFor b old → Shows b p look → length look.axis.letters ≡ length old.axis.letters → IsMadeFor b look
look_made b p old look made s same = (s.held.0, subst (λ (k : ℕ). ProductsOfLength k b.job.products) (sym same) made.1)
