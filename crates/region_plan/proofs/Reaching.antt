-- What a walk reached, and what is nearest.
use Rattle.std.proofs.Common.{◌≡◌, ℕ, ◌+◌, ◌≤◌, inl, inr, length, slice_get, Some, List, [], ◌∷◌, sym, subst, arith, Bool}
use Rattle.std.proofs.lemmas.Option.{slice_get_within}
use Rattle.std.proofs.lemmas.Bool.{cases_lt}
use Rattle.patch_layout.specs.declared.walk.Reached.{Reached}
use Rattle.patch_layout.specs.Grid.{Grid, Leads}
use Rattle.patch_layout.specs.Spread.{Spread, NoneBefore}
use Rattle.patch_layout.specs.Joined.{Joining}
use Rattle.region_plan.specs.inside.Walk.{Reaches}

pub reaches_of : (g : Grid) (Free : ℕ → Type 0) (starts : List ℕ) (queue : List Reached) (head : ℕ) (seen : List Bool) → Spread g Free starts queue head seen → Reaches g Free starts queue head
reaches_of g Free starts queue head seen s = record { came = s.came; start = s.start; within = s.within; ordered = s.ordered; once = s.once; done = s.done }

-- what is so up to an entry is so up to an earlier one
pub reaches_before : (g : Grid) (Free : ℕ → Type 0) (starts : List ℕ) (queue : List Reached) (head n : ℕ) → Reaches g Free starts queue head → n ≤ head → Reaches g Free starts queue n
reaches_before g Free starts queue head n s low =
    record { came = s.came; start = s.start; within = s.within; ordered = s.ordered; once = s.once; done = λ k r lt. s.done k r (omega arith) }

-- no walk from the queue takes fewer steps than the head is away
least : (g : Grid) (Free T : ℕ → Type 0) (starts : List ℕ) (queue : List Reached) (head : ℕ) (h : Reached) → Reaches g Free starts queue head → slice_get queue head ≡ Some h → NoneBefore T queue head
    → (cs : List ℕ) (k : ℕ) (r : Reached) → slice_get queue k ≡ Some r → Leads g Free T r.cell cs → h.steps ≤ r.steps + length cs
least g Free T starts queue head h s at' none [] k r is t =
    elim (cases_lt k head) [
      | inl lt ↦ absurd (none k r lt is t)
      | inr ge ↦ let o : h.steps ≤ r.steps = s.ordered head k h r ge at' is in omega arith
    ]
least g Free T starts queue head h s at' none (c ∷ cs) k r is (adj, free, rest) =
    elim (cases_lt k head) [
      | inl lt ↦
          let (j, x, is', cell, n) = s.done k r lt is c adj free in
          let P : ℕ → Type 0 = λ y. Leads g Free T y cs in
          let l : h.steps ≤ x.steps + length cs = least g Free T starts queue head h s at' none cs j x is' (subst P (sym cell) rest) in
          omega arith
      | inr ge ↦ let o : h.steps ≤ r.steps = s.ordered head k h r ge at' is in omega arith
    ]

-- the walk to the head is the least one
pub least_reached : (g : Grid) (Free T : ℕ → Type 0) (starts : List ℕ) (queue : List Reached) (head : ℕ) (h : Reached) → Reaches g Free starts queue head → slice_get queue head ≡ Some h → NoneBefore T queue head
    → (others : List ℕ) → Joining g Free T starts others → h.steps ≤ length others
least_reached g Free T starts queue head h s at' none others (from, has, leads) =
    let (k, r, is, cell, zero-steps) = s.start from has in
    let P : ℕ → Type 0 = λ y. Leads g Free T y others in
    let l : h.steps ≤ r.steps + length others = least g Free T starts queue head h s at' none others k r is (subst P (sym cell) leads) in
    omega arith

-- when the walk has come to its end, no walk leads anywhere else
nowhere : (g : Grid) (Free T : ℕ → Type 0) (starts : List ℕ) (queue : List Reached) → Reaches g Free starts queue (length queue) → NoneBefore T queue (length queue)
    → (cs : List ℕ) (k : ℕ) (r : Reached) → slice_get queue k ≡ Some r → Leads g Free T r.cell cs → ⊥
nowhere g Free T starts queue s none [] k r is t = none k r (slice_get_within queue k r is) is t
nowhere g Free T starts queue s none (c ∷ cs) k r is (adj, free, rest) =
    let (j, x, is', cell, n) = s.done k r (slice_get_within queue k r is) is c adj free in
    let P : ℕ → Type 0 = λ y. Leads g Free T y cs in
    nowhere g Free T starts queue s none cs j x is' (subst P (sym cell) rest)

pub none_reached : (g : Grid) (Free T : ℕ → Type 0) (starts : List ℕ) (queue : List Reached) → Reaches g Free starts queue (length queue) → NoneBefore T queue (length queue)
    → (others : List ℕ) → Joining g Free T starts others → ⊥
none_reached g Free T starts queue s none others (from, has, leads) =
    let (k, r, is, cell, zero-steps) = s.start from has in
    let P : ℕ → Type 0 = λ y. Leads g Free T y others in
    nowhere g Free T starts queue s none others k r is (subst P (sym cell) leads)
