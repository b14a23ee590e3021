-- A claim that the board in hand refuses.
use Rattle.std.proofs.Common.{◌≡◌, ℕ, List, [], ◌∷◌, Option, Result, Ok, Err, IfErr, IsOk, is_some, sym, ap, ◌∙◌, subst}
use denote.RawPtr.{Ptr}
use Rattle.atomic_table.specs.Table.{rest}
use Rattle.patch_layout.specs.declared.plan.Plan.{Plan}
use Rattle.patch_layout.specs.Certificate.{Certified}
use Rattle.patch_layout.specs.Case.{case_of}
use Rattle.board_core.specs.declared.board.Claimed.{Claimed}
use Rattle.board_core.specs.declared.board.ClaimRefused.{ClaimRefused}
use Rattle.board_core.specs.Legal.{Allowed}
use Rattle.board_core.specs.Position.{Position, past}
use Rattle.board_core.specs.Causes.{ClaimRefusedBecause, claim_of}
use Rattle.grid_lock.specs.inside.Plays.{Sat}
use Rattle.grid_lock.specs.inside.Hands.{HasBoard, board_of}
use Rattle.grid_lock.specs.Answers.{RefusesClaim}

abbrev first : Position → List (ℕ × Position) → Position
first b [] = b
first b (x ∷ xs) = x.1

-- the board that was lent is the one in hand
pub board_is : (m : Sat) (b : Position) → HasBoard m m.0.seen → m.1 ≡ (0, b) ∷ rest m.1 → b ≡ board_of m
board_is m b hand lent = ap (first b) (sym lent ∙ hand.2)

pub refuses_claim : (m : Sat) (b after : Position) (plan : Plan) (node : Ptr) (r : Result Claimed ClaimRefused) → HasBoard m m.0.seen → m.1 ≡ (0, b) ∷ rest m.1
    → IfErr r (λ (x : ClaimRefused). (after ≡ b) × ClaimRefusedBecause x.why b plan × (x.plan ≡ plan) × (x.node ≡ node))
    → ((state : Option ℕ) → Allowed b.job (past b) (claim_of plan state) → Certified (case_of b.job.grid (is_some plan.port) plan) → IsOk r)
    → IfErr r (λ (x : ClaimRefused). RefusesClaim (board_of m) plan x.why)
refuses_claim m b after plan node (Ok c) hand lent refused complete = tt
refuses_claim m b after plan node (Err x) hand lent refused complete =
    let answer : RefusesClaim b plan x.why = record { because = refused.1; forbidden = λ state allowed certified. let accepted = complete state allowed certified in cc } in
    subst (λ (p : Position). RefusesClaim p plan x.why) (board_is m b hand lent) answer
