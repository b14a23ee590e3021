-- What holds of every board: of looks at it, and of the claims that are allowed.
use Rattle.std.specs.Prelude.{◌≡◌, ℕ, List, Option, is_some}
use Rattle.pauli_product.specs.Signed.{Signed}
use Rattle.patch_layout.specs.Grid.{Sound}
use Rattle.patch_layout.specs.declared.look.Look.{Look}
use Rattle.patch_layout.specs.declared.plan.Plan.{Plan}
use Rattle.patch_layout.specs.Certificate.{Certified}
use Rattle.patch_layout.specs.Case.{case_of}
use Rattle.board_core.specs.declared.Entry.TheVariants.{Claim}
use Rattle.board_core.specs.Legal.{Allowed}
use Rattle.board_core.specs.Position.{Position, past}
use Rattle.board_core.specs.Causes.{claim_of}
use Rattle.board_core.specs.Shows.{Shows}

-- two looks that show the same product of the same board are equal
abbrev pub LooksAreEqual : Type 0
LooksAreEqual = (b : Position) (p : ℕ) (x y : Look) → Shows b p x → Shows b p y → x ≡ y

-- each claim that is allowed has a plan that asks for it and keeps every rule of the check, and so a board accepts it
abbrev pub AllowedClaimsHavePlans : Type 0
AllowedClaimsHavePlans = (b : Position) (p : ℕ) (axis : Signed) (port state : Option ℕ) (cells : List ℕ) →
    Sound b.job.grid → Allowed b.job (past b) (Claim p axis port state cells) →
    (plan : Plan) × (claim_of plan state ≡ Claim p axis port state cells) ×
    Certified (case_of b.job.grid (is_some plan.port) plan)
