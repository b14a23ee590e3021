use Rattle.std.proofs.Common.{◌≡◌, ◌<◌, ◌≤◌, List, length, All}
use Rattle.pauli_product.specs.Signed.{Signed}
use Rattle.commute_order.specs.declared.Uses.{Uses}
use Rattle.commute_order.specs.Commuting.{IsOrder}
use Rattle.layer_pass.specs.declared.draft.Low.{Low}
use Rattle.layer_pass.specs.inside.Drafts.{IsFilled, IsDraft}
use Rattle.layer_pass.specs.inside.Lows.{IsLow}
use Rattle.layer_pass.proofs.draft.place_all.Given as goal

abbrev pub invariant-loop-p : goal.invariant-loop-p
invariant-loop-p l = record {
  layers : length l.layer.items ≡ l.p;
  blockers : length l.before.items ≡ l.p;
  rows : length l.rows.items ≤ l.p;
  before : All (λ j. j < l.n) l.before.items;
  filled : IsFilled l.layer.items l.rows.items;
  within : All (λ (low : Low). low.row < length l.rows.items) l.lows.items;
  lows : All (IsLow l.layer.items l.n) l.lows.items;
  draft : (ps : List Signed) (us : List Uses) → IsOrder ps us l.order → IsDraft ps us l.layer.items l.before.items;
}
