-- Sets of the products of lower layers, and what they tell of a product.
use Rattle.std.specs.Prelude.{◌≡◌, ℕ, ◌-◌, ◌<◌, ◌≤◌, true, false, nat_lt, if◌then◌else◌, List, [], length, slice_index, slice_index_or, slice_set, Option, Some, None}
use Rattle.pauli_product.specs.Signed.{Signed}
use Rattle.commute_order.specs.declared.Uses.{Uses}
use Rattle.commute_order.specs.Commuting.{commuting_at}
use Rattle.layer_pass.specs.declared.draft.Low.{Low}
use Rattle.layer_pass.specs.Layering.{IsLeastNumber}
use Rattle.layer_pass.specs.inside.Drafts.{first_clash_of}

-- of n products the set has those in the rows below its own
pub record IsLow (layer : List ℕ) (n : ℕ) (low : Low) : Type 0 where
  pub size : length low.set ≡ n
  pub has : (j : ℕ) → j < length layer → slice_index layer j ≤ low.row → slice_index_or low.set j false ≡ true
  pub lacks : (j : ℕ) → j < n → (j < length layer → low.row < slice_index layer j) → slice_index_or low.set j false ≡ false

-- the set once product p went above so many layers
abbrev pub marked : ℕ → ℕ → Low → Low
marked below p low = if nat_lt below low.row then record low { set = slice_set low.set p true } else low

-- j is earlier than p, doesn't commute with it, and stands above so many layers
pub record IsAbove (ps : List Signed) (us : List Uses) (layer : List ℕ) (below p j : ℕ) : Type 0 where
  pub earlier : j < p
  pub clash : commuting_at ps us j p ≡ false
  pub above : below < slice_index layer j

-- the least of those, if there is one
abbrev pub LeastAbove : List Signed → List Uses → List ℕ → ℕ → ℕ → Option ℕ → Type 0
LeastAbove ps us layer below p None = (j : ℕ) → IsAbove ps us layer below p j → ⊥
LeastAbove ps us layer below p (Some j) = IsLeastNumber (IsAbove ps us layer below p) j

-- p goes above `below` layers or more, held by the blocker or a product of a higher row, and no row from `end` on holds it
pub record IsReach (ps : List Signed) (us : List Uses) (layer : List ℕ) (rows : List (List ℕ)) (p below blocker end : ℕ) : Type 0 where
  pub silent : (k : ℕ) → end ≤ k → k < length rows → first_clash_of ps us p (slice_index_or rows k []) ≡ None
  pub held : 0 < below → IsLeastNumber (IsAbove ps us layer (below - 1) p) blocker
