-- What a worker's call does to its pass.
use Rattle.std.specs.Prelude.{◌≡◌, ℕ, ◌≤◌, slice_get, List, ◌++◌, All, Some}
use Rattle.source_model.specs.declared.Given.{Given}
use Rattle.board_core.specs.declared.Entry.{Entry}
use Rattle.board_core.specs.declared.Entry.TheVariants.{Claim, Deliver, Release, Step, Settle}
use Rattle.board_core.specs.declared.Noted.{Noted}
use Rattle.board_core.specs.Position.{Position, with_history}
use Rattle.grid_lock.specs.Views.{Extends}
use Rattle.grid_lock.specs.Passes.{Known, IsSamePass, IsCalm}

-- what a router makes: claims, deliveries of the handed-in outcomes, releases and settlings
abbrev pub IsRouted : List Given → Entry → Type 0
IsRouted given (Claim p axis port state cells) = Unit {0}
IsRouted given (Deliver p g) = slice_get given p ≡ Some g
IsRouted given (Release p) = Unit {0}
IsRouted given (Step f) = ⊥
IsRouted given (Settle p flip) = Unit {0}

-- what a maker makes: steps of its factory
abbrev pub IsStepOf : ℕ → Entry → Type 0
IsStepOf f e = e ≡ Step f

-- the pass is the same and doesn't hold the turn; it has seen no less, and what it added to its own entries is of this kind;
-- no count fell
pub record Passed (Makes : Entry → Type 0) (p q : Known) : Type 0 where
  pub same : IsSamePass p q
  pub calm : IsCalm q
  pub seen : Extends q.view.seen p.view.seen
  pub added : List Noted
  pub mine : q.view.mine ≡ p.view.mine ++ added
  pub makes : All (λ (n : Noted). Makes n.entry) added
  pub met : p.view.met ≤ q.view.met
  pub turns : p.view.turns ≤ q.view.turns

-- the board at all that the pass has seen
abbrev pub seen_board : Known → Position
seen_board p = with_history p.view.opened p.view.seen
