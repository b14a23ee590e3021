-- Looks at a product whose turn it is.
use Rattle.std.specs.Prelude.{ℕ}
use Rattle.pauli_product.specs.Signed.{IsNotIdentity}
use Rattle.source_model.specs.declared.Static.{Static}
use Rattle.patch_layout.specs.declared.look.Look.{Look}
use Rattle.region_plan.specs.Free.{LacksState}
use Rattle.board_core.specs.Books.{TakesRegion}
use Rattle.board_core.specs.Causes.{IsProduct}
use Rattle.board_core.specs.Legal.{AxisOf}
use Rattle.board_core.specs.Position.{Position, past}
use Rattle.board_core.specs.Shows.{Shows}
use Rattle.finish_run.specs.Next.{IsTurnOf}

-- the product is a rotation or a measurement
abbrev pub IsServed : Position → ℕ → Type 0
IsServed b p = (s : Static) × IsProduct b p s × TakesRegion s.kind

-- a rotation has a ready state
abbrev pub IsStocked : Look → Type 0
IsStocked look = LacksState look → ⊥

-- the look shows the product whose turn it is, with the axis that source order gives it, which has a letter other than I
pub record ShowsTurn (b : Position) (p : ℕ) (look : Look) : Type 0 where
  pub turn : IsTurnOf b p
  pub shows : Shows b p look
  pub axis_of : AxisOf b.job (past b) p look.axis
  pub letter : IsNotIdentity look.axis
