-- What a pool has, the histories of steps and taken states that it may have had, and what a step of it answers.
use Rattle.std.specs.Prelude.{◌≡◌, ℕ, false, ◌+◌, ◌-◌, ◌/◌, ◌%◌, ◌<◌, ◌≤◌, ◌==◌, ◌&&◌, nat_le, if◌then◌else◌, slice_index, slice_index_or, List, [], ◌∷◌, length, Result, Ok, Err}
use Rattle.magic_pool.specs.declared.Maker.{Maker}
use Rattle.magic_pool.specs.declared.Fail.{Fail}
use Rattle.magic_pool.specs.declared.Stepped.{Stepped}
use Rattle.magic_pool.specs.declared.Stepped.TheVariants.{Running, Made, Failed}
use Rattle.magic_pool.specs.declared.StepRefused.{StepRefused}
use Rattle.magic_pool.specs.declared.StepRefused.TheVariants.{NoFactory, Stocked}
use Rattle.magic_pool.specs.Recount.{step_count, is_listed, makers_of, is_taken, ready_of}

-- what a pool has: its makers and failing runs, how many states were made, and by factory its steps and ready states
pub record Pooled : Type 0 where
  pub makers : List Maker
  pub fails : List Fail
  pub made : ℕ
  pub steps : List ℕ
  pub ready : List (List ℕ)

-- the pool is one after these steps, in order, and these taken states
pub record Recounts (p : Pooled) (steps taken : List ℕ) : Type 0 where
  pub made : p.made ≡ length (makers_of p.fails steps)
  pub counts : (f : ℕ) → slice_index p.steps f ≡ step_count f steps
  pub ready : (f : ℕ) → slice_index_or p.ready f [] ≡ ready_of p.fails steps taken f
  pub untaken : (s : ℕ) → p.made ≤ s → is_taken taken s ≡ false

-- fewer steps than this stand before the pool
abbrev pub HasFewer : Pooled → ℕ → Type 0
HasFewer p most = (steps : List ℕ) × (taken : List ℕ) × Recounts p steps taken × (length steps < most)

-- a factory's store, and 0 where there is no such factory
abbrev pub store_of : List Maker → ℕ → ℕ
store_of [] f = 0
store_of (m ∷ ms) f = if m.factory == f then m.store else store_of ms f

-- what the factory's n-th step, counted from 1, does where so many states were made before
abbrev pub outcome_of : List Fail → ℕ → ℕ → ℕ → Stepped
outcome_of fails f n made =
    if n % 11 == 0 then (if is_listed fails f (n / 11 - 1) then Failed (n / 11 - 1) else Made made) else Running

-- what a step answers where so many steps of the factory and states were made before, and so many of its states are ready
abbrev pub answer_of : List Fail → ℕ → ℕ → ℕ → ℕ → ℕ → Result Stepped StepRefused
answer_of fails f store before made ready =
    if store == 0 then Err NoFactory
    else (if before % 11 == 0 && nat_le store ready then Err (Stocked ready) else Ok (outcome_of fails f (before + 1) made))

-- what a step of a factory answers after these steps and taken states
abbrev pub step_answer : List Maker → List Fail → List ℕ → List ℕ → ℕ → Result Stepped StepRefused
step_answer makers fails steps taken f =
    answer_of fails f (store_of makers f) (step_count f steps) (length (makers_of fails steps)) (length (ready_of fails steps taken f))
