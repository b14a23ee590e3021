-- How a row of the table comes about: sizes are lowered.
use Rattle.std.specs.Prelude.{◌≡◌, ℕ, Bool, ◌+◌, ◌<◌, ◌≤◌, ◌⊎◌, length, slice_get, slice_set, List, [], ◌∷◌, ◌++◌, Option, Some, map, if◌then◌else◌}
use Rattle.patch_layout.specs.Grid.{Grid, Adjacent}
use Rattle.patch_layout.specs.Spread.{Marked, OnGoal}
use Rattle.least_region.specs.inside.Subset.{Parts}
use Rattle.least_region.specs.inside.Table.{AtMost, Entry, Reasoned}

-- no size is greater than it was
abbrev pub Under : List ℕ → List ℕ → Type 0
Under old new = (c n : ℕ) → AtMost old c n → AtMost new c n

-- where each size had a reason it still has
abbrev pub Keeps : Grid → List Bool → ℕ → List ℕ → List ℕ → Type 0
Keeps g free limit old new =
    (pair : List (Option ℕ)) (rows : List (List ℕ)) (m : ℕ) → Reasoned g free limit (OnGoal pair) rows m old → Reasoned g free limit (OnGoal pair) rows m new

-- what a try to lower the size at a cell leaves
abbrev pub Lowered : List Bool → ℕ → ℕ → List ℕ → List ℕ → List ℕ → List ℕ → Type 0
Lowered free c size row queue after more =
    (Marked free c × ((v : ℕ) × (slice_get row c ≡ Some v) × (size < v)) × (after ≡ slice_set row c size) × (more ≡ queue ++ c ∷ []))
    ⊎ ((Marked free c → AtMost row c size) × (after ≡ row) × (more ≡ queue))

-- the cell stands in the queue at the head or after it
abbrev pub Pending : List ℕ → ℕ → ℕ → Type 0
Pending queue head c = (k : ℕ) × (head ≤ k) × (slice_get queue k ≡ Some c)

-- the queue has cells alone, and each whose size is below the limit
abbrev pub Queued : List ℕ → ℕ → List ℕ → Type 0
Queued row limit queue = ((k c : ℕ) → slice_get queue k ≡ Some c → c < length row) × ((c v : ℕ) → slice_get row c ≡ Some v → v < limit → Pending queue 0 c)

-- a size is at most one more than a neighbour's
abbrev pub Spreads : Grid → List Bool → ℕ → List ℕ → Type 0
Spreads g free limit row = (c d v : ℕ) → slice_get row c ≡ Some v → v < limit → Adjacent g c d → Marked free d → AtMost row d (v + 1)

-- sizes that are above 0
abbrev pub IsSome : List ℕ → Type 0
IsSome row = (c v : ℕ) → slice_get row c ≡ Some v → 0 < v

-- so many cells in each row, with sizes above 0
abbrev pub HasRows : List (List ℕ) → ℕ → Type 0
HasRows rows size = (m : ℕ) (row : List ℕ) → slice_get rows m ≡ Some row → (length row ≡ size) × IsSome row

-- the union at the cell allows at most n
abbrev pub Allows : List ℕ → List ℕ → ℕ → ℕ → Type 0
Allows one other c n = (x : ℕ) × (y : ℕ) × (slice_get one c ≡ Some x) × (slice_get other c ≡ Some y) × (x + y ≡ n + 1)

-- sizes were lowered to those of unions alone
abbrev pub MergedAt : List ℕ → List ℕ → ℕ → List ℕ → ℕ → ℕ → Type 0
MergedAt one other limit old c v =
    (slice_get old c ≡ Some v) ⊎ ((x : ℕ) × (y : ℕ) × (slice_get one c ≡ Some x) × (slice_get other c ≡ Some y) × (x + y ≡ v + 1) × (x ≤ limit))

-- a row after all unions of two rows at one of the first n cells
pub record Merged (one other : List ℕ) (limit : ℕ) (old new : List ℕ) (n : ℕ) : Type 0 where
  pub under : Under old new
  pub some : IsSome old → IsSome new
  pub least : (c k : ℕ) → c < n → Allows one other c k → k ≤ limit → AtMost new c k
  pub made : (c v : ℕ) → slice_get new c ≡ Some v → v ≤ limit → MergedAt one other limit old c v

-- two parts of the subset at the cell
abbrev pub PartsAt : List (List ℕ) → ℕ → ℕ → ℕ → ℕ → Type 0
PartsAt rows m limit c v =
    (a : ℕ) × (b : ℕ) × (x : ℕ) × (y : ℕ) × Parts a b m × (0 < a) × (0 < b) × Entry rows a c x × Entry rows b c y × (x + y ≡ v + 1) × (x ≤ limit)

-- a row after all unions for two parts of the subset of which the lesser one is below n
pub record MergedTo (rows : List (List ℕ)) (m limit : ℕ) (old new : List ℕ) (n : ℕ) : Type 0 where
  pub under : Under old new
  pub some : IsSome old → IsSome new
  pub least : (a b c x y k : ℕ) → a < n → a ≤ b → Parts a b m → 0 < a → Entry rows a c x → Entry rows b c y → x + y ≡ k + 1 → k ≤ limit → AtMost new c k
  pub made : (c v : ℕ) → slice_get new c ≡ Some v → v ≤ limit → (slice_get old c ≡ Some v) ⊎ PartsAt rows m limit c v

-- an entry that says something stands at a free cell
abbrev pub OnFree : List (List ℕ) → List Bool → ℕ → Type 0
OnFree rows free limit = (m c v : ℕ) → Entry rows m c v → v ≤ limit → Marked free c

-- the first n of the cells at the start, where they are free, have size 1, and no other size says anything
pub record Begun (free : List Bool) (limit : ℕ) (pair : List (Option ℕ)) (row : List ℕ) (n : ℕ) : Type 0 where
  pub sizes : length row ≡ length free
  pub some : IsSome row
  pub base : (i c : ℕ) → i < n → slice_get pair i ≡ Some (Some c) → Marked free c → AtMost row c 1
  pub made : (c v : ℕ) → slice_get row c ≡ Some v → v ≤ limit → (v ≡ 1) × Marked free c × OnGoal pair c

-- the sizes for no sides
abbrev pub first_sizes : List Bool → ℕ → List ℕ
first_sizes free limit = map (λ mark. if mark then 1 else limit + 1) free
