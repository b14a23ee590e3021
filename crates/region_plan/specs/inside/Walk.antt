-- A walk from a side back to a region.
use Rattle.std.specs.Prelude.{◌≡◌, ℕ, Bool, true, false, ◌+◌, ◌<◌, ◌≤◌, ◌⊎◌, length, slice_get, slice_set, List, [], ◌∷◌, ◌++◌, Option, Some, None, Contains}
use Rattle.patch_layout.specs.declared.walk.Reached.{Reached}
use Rattle.patch_layout.specs.Grid.{Grid, Adjacent}
use Rattle.patch_layout.specs.Spread.{Marked, InQueue, OnGoal, Came, NoneBefore, Spread, Walked}
use Rattle.region_plan.specs.Free.{Free}
use Rattle.region_plan.specs.declared.walk.Met.{Met}

-- what a look at a cell leaves: a free cell that wasn't marked is marked and comes last in the queue, and else all is as it was
abbrev pub Looked : Grid → List (Option ℕ) → Reached → List Bool → List Reached → List Bool → List Reached → Type 0
Looked g held next seen queue marks after =
    (Free g held next.cell × (slice_get seen next.cell ≡ Some false) × (marks ≡ slice_set seen next.cell true) × (after ≡ queue ++ next ∷ []))
    ⊎ ((Free g held next.cell → Marked seen next.cell) × (marks ≡ seen) × (after ≡ queue))

-- the queue has the free ones of the first n cells of the pair, each once, and they are marked
pub record BegunTo (g : Grid) (held : List (Option ℕ)) (pair : List (Option ℕ)) (n : ℕ) (queue : List Reached) (seen : List Bool) : Type 0 where
  pub entry : (k : ℕ) (r : Reached) → slice_get queue k ≡ Some r → (r.steps ≡ 0) × (r.from ≡ 0) × Free g held r.cell × OnGoal pair r.cell
  pub all : (i c : ℕ) → i < n → slice_get pair i ≡ Some (Some c) → Free g held c → InQueue queue c
  pub marked : (c : ℕ) → Marked seen c → InQueue queue c
  pub mark : (k : ℕ) (r : Reached) → slice_get queue k ≡ Some r → Marked seen r.cell
  pub once : (i j : ℕ) (a b : Reached) → slice_get queue i ≡ Some a → slice_get queue j ≡ Some b → a.cell ≡ b.cell → i ≡ j
  pub few : length queue ≤ n
  pub sizes : length seen ≡ length g.sites

-- the entry of the walk and the entry of the region have the same cell
abbrev pub MetAt : List Reached → List Reached → Met → Type 0
MetAt queue tree met = (r : Reached) × (x : Reached) × (slice_get queue met.head ≡ Some r) × (slice_get tree met.place ≡ Some x) × (x.cell ≡ r.cell)

-- the free cells of the pair
abbrev pub FreeOnes : Grid → List (Option ℕ) → List (Option ℕ) → List ℕ → Type 0
FreeOnes g held pair starts = ((c : ℕ) → Contains starts c → Free g held c × OnGoal pair c) × ((c : ℕ) → Free g held c → OnGoal pair c → Contains starts c)

-- the walk from the free cells of the pair came to a cell of the region, or to its end
abbrev pub Sought : Grid → List (Option ℕ) → List (Option ℕ) → List Reached → List Reached → List Bool → Option Met → Type 0
Sought g held pair tree queue seen None = (starts : List ℕ) × FreeOnes g held pair starts × Walked g (Free g held) starts (InQueue tree) queue seen None
Sought g held pair tree queue seen (Some met) =
    (starts : List ℕ) × FreeOnes g held pair starts × Walked g (Free g held) starts (InQueue tree) queue seen (Some met.head) × MetAt queue tree met

-- the walk goes on by one entry of the queue, wherever it started
abbrev pub WalkGoesOn : Grid → (ℕ → Type 0) → List Reached → List Reached → ℕ → List Bool → List Bool → Type 0
WalkGoesOn g Free queue after head seen marks = (starts : List ℕ) → Spread g Free starts queue head seen → Spread g Free starts after (head + 1) marks

-- each entry stays where it is
abbrev pub Continues : List Reached → List Reached → Type 0
Continues queue after = (k : ℕ) (r : Reached) → slice_get queue k ≡ Some r → slice_get after k ≡ Some r

-- the first entry whose cell is in the region, or None where no entry's is
abbrev pub Meets : List Reached → List Reached → Option Met → Type 0
Meets queue tree None = NoneBefore (InQueue tree) queue (length queue)
Meets queue tree (Some met) = NoneBefore (InQueue tree) queue met.head × MetAt queue tree met

-- the entries of a walk, in the order of their steps; up to the head each has all its free neighbours among them
pub record Reaches (g : Grid) (Free : ℕ → Type 0) (starts : List ℕ) (queue : List Reached) (head : ℕ) : Type 0 where
  pub came : (k : ℕ) (r : Reached) → slice_get queue k ≡ Some r → Came g Free starts queue k r
  pub start : (c : ℕ) → Contains starts c → (k : ℕ) × (r : Reached) × (slice_get queue k ≡ Some r) × (r.cell ≡ c) × (r.steps ≡ 0)
  pub within : (k : ℕ) (r : Reached) → slice_get queue k ≡ Some r → r.cell < length g.sites
  pub ordered : (i j : ℕ) (a b : Reached) → i ≤ j → slice_get queue i ≡ Some a → slice_get queue j ≡ Some b → a.steps ≤ b.steps
  pub once : (i j : ℕ) (a b : Reached) → slice_get queue i ≡ Some a → slice_get queue j ≡ Some b → a.cell ≡ b.cell → i ≡ j
  pub done : (k : ℕ) (r : Reached) → k < head → slice_get queue k ≡ Some r → (c : ℕ) → Adjacent g r.cell c → Free c
      → (j : ℕ) × (b : Reached) × (slice_get queue j ≡ Some b) × (b.cell ≡ c) × (b.steps ≤ r.steps + 1)
