-- The factories of a pool as they are stored.
use Rattle.std.specs.Prelude.{◌≡◌, ℕ, Bool, ◌+◌, ◌-◌, ◌/◌, ◌%◌, ◌<◌, ◌≤◌, ◌==◌, ◌&&◌, not, if◌then◌else◌, slice_index_or, List, [], ◌∷◌, ◌++◌, length}
use Rattle.std.specs.List.{All, list_any}
use Rattle.std.specs.List.Sorted.{IsNonDecreasing}
use Rattle.magic_pool.specs.declared.Maker.{Maker}
use Rattle.magic_pool.specs.declared.Fail.{Fail}
use Rattle.magic_pool.specs.declared.Stepped.{Stepped}
use Rattle.magic_pool.specs.declared.Stepped.TheVariants.{Running, Made, Failed}
use Rattle.magic_pool.specs.declared.factory.Factory.{Factory}
use Rattle.magic_pool.specs.Recount.{is_listed}
use Rattle.magic_pool.specs.Pooled.{store_of}
use Rattle.magic_pool.specs.Makers.{IsMaker}

-- a run that is under way has its place in the store
abbrev pub under_way : ℕ → ℕ
under_way steps = if steps % 11 == 0 then 0 else 1

-- whether the run that the n-th step ends is among the failing runs
abbrev pub ends_failing : List ℕ → ℕ → Bool
ends_failing runs n = list_any (λ r. r == n / 11 - 1) runs

abbrev pub outcome_here : List ℕ → ℕ → ℕ → Stepped
outcome_here runs n made = if n % 11 == 0 then (if ends_failing runs n then Failed (n / 11 - 1) else Made made) else Running

abbrev pub ready_after : List ℕ → ℕ → ℕ → List ℕ → List ℕ
ready_after runs n made ready = if n % 11 == 0 && not (ends_failing runs n) then ready ++ made ∷ [] else ready

-- a stored factory is the one of this number
pub record Serves (makers : List Maker) (fails : List Fail) (f : ℕ) (x : Factory) : Type 0 where
  pub store : x.store ≡ store_of makers f
  pub within : x.store ≤ 16
  pub room : length x.ready.items + under_way x.steps ≤ x.store
  pub sorted : IsNonDecreasing x.failing.items
  pub listed : (run : ℕ) → list_any (λ r. r == run) x.failing.items ≡ is_listed fails f run

-- a factory that hasn't stepped yet
pub record IsFresh (x : Factory) : Type 0 where
  pub steps : x.steps ≡ 0
  pub ready : x.ready.items ≡ []

-- a pool's factories, by their numbers
pub record AllServe (makers : List Maker) (fails : List Fail) (xs : List Factory) : Type 0 where
  pub are_makers : All IsMaker makers
  pub count : length xs ≡ 16
  pub each : (f : ℕ) (d : Factory) → f < 16 → Serves makers fails f (slice_index_or xs f d)
