-- The states that a pool gives, over any list of steps and takes.
use Rattle.std.specs.Prelude.{ℕ, List, [], ◌∷◌, ◌++◌, Some, None}
use Rattle.magic_pool.specs.declared.Fail.{Fail}
use Rattle.magic_pool.specs.Recount.{ready_of, first_of_list}

-- a step of a factory, or a take of its least ready state
pub data Event : Type 0 where
  step : ℕ → Event
  take : ℕ → Event

-- the states that the events take, in order, after these steps and taken states
abbrev pub given_after : List Fail → List ℕ → List ℕ → List Event → List ℕ
given_after fails steps taken [] = []
given_after fails steps taken (step f ∷ es) = given_after fails (steps ++ f ∷ []) taken es
given_after fails steps taken (take f ∷ es) = elim (first_of_list (ready_of fails steps taken f)) [
  | None ↦ given_after fails steps taken es
  | Some s ↦ s ∷ given_after fails steps (taken ++ s ∷ []) es
]
