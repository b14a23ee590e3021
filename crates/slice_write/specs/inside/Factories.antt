-- A factory as its table has it.
use Rattle.std.specs.Prelude.{◌≡◌, ℕ, Bool, ◌+◌, ◌-◌, ◌/◌, ◌%◌, ◌^◌, ◌<◌, ◌==◌, ◌&&◌, not, max, if◌then◌else◌, List, [], ◌∷◌, ◌++◌}
use Rattle.std.specs.List.{list_any}
use Rattle.std.specs.List.Sorted.{IsNonDecreasing}
use Rattle.magic_pool.specs.declared.Fail.{Fail}
use Rattle.magic_pool.specs.Recount.{is_listed, step_count}
use Rattle.board_core.specs.History.{steps}
use Rattle.board_core.specs.Legal.{BoardJob}
use Rattle.slice_write.specs.declared.factory.Factory.{Factory}
use Rattle.slice_write.specs.Slices.{Sliced, greatest_of, is_step_of, entries_of, states_made_by}
use Rattle.slice_write.specs.inside.Numbers.{room_of}

-- its failing runs are those that are listed, ascending
pub record HasRuns (fails : List Fail) (f : ℕ) (x : Factory) : Type 0 where
  pub sorted : IsNonDecreasing x.failing.items
  pub listed : (run : ℕ) → list_any (λ r. r == run) x.failing.items ≡ is_listed fails f run

-- a factory that hasn't stepped
pub record IsFresh (fails : List Fail) (f : ℕ) (x : Factory) : Type 0 where
  pub steps : x.steps ≡ 0
  pub last : x.last ≡ 0
  pub own : x.own.items ≡ []
  pub runs : HasRuns fails f x

-- the factory after entries that have their slices
pub record FactoryIs (j : BoardJob) (done : List Sliced) (f : ℕ) (x : Factory) : Type 0 where
  pub steps : x.steps ≡ step_count f (steps (entries_of done))
  pub last : x.last ≡ greatest_of (is_step_of f) done
  pub own : x.own.items ≡ states_made_by j.fails f done
  pub runs : HasRuns j.fails f x

-- whether the factory's next step makes a state
abbrev pub makes : Factory → Bool
makes x = (x.steps + 1) % 11 == 0 && not (list_any (λ r. r == (x.steps + 1) / 11 - 1) x.failing.items)

-- the slice of a factory's next step
abbrev pub step_of : List ℕ → Factory → ℕ → ℕ
step_of taken x store = 1 + max x.last (if x.steps % 11 == 0 then room_of taken x.own.items store else 0)

-- the step is within the numbers of 32 bits
pub record IsReady (taken : List ℕ) (x : Factory) (store : ℕ) : Type 0 where
  pub steps : x.steps < 2 ^ 32 - 1
  pub slice : step_of taken x store < 2 ^ 32
  pub sorted : IsNonDecreasing x.failing.items

-- a factory after a step in this slice, where so many states were made before
pub record Steps (was now : Factory) (n states : ℕ) : Type 0 where
  pub steps : now.steps ≡ was.steps + 1
  pub last : now.last ≡ n
  pub own : now.own.items ≡ (if makes was then was.own.items ++ states ∷ [] else was.own.items)
  pub failing : now.failing.items ≡ was.failing.items
