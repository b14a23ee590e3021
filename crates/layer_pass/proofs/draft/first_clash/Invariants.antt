use Rattle.std.proofs.Common.{◌≡◌, ℕ, ◌<◌, true, List, get_or}
use Rattle.pauli_product.specs.Signed.{Signed}
use Rattle.commute_order.specs.declared.Uses.{Uses}
use Rattle.commute_order.specs.Commuting.{commuting_at, IsOrder}
use Rattle.layer_pass.proofs.draft.first_clash.Given as goal

abbrev pub invariant-loop-j : goal.invariant-loop-j
invariant-loop-j l = (ps : List Signed) (us : List Uses) → IsOrder ps us l.order → (i : ℕ) → i < l.j-index → commuting_at ps us (get_or l.row i 0) l.p ≡ true
