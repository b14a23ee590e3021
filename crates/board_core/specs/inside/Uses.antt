-- Which products of a job are done, as a table.
use Rattle.std.specs.Prelude.{◌≡◌, ℕ, Bool, ◌<◌, List, length, slice_get, Some, is_some}
use Rattle.board_core.specs.History.{History, done_place}
use Rattle.board_core.specs.Legal.{BoardJob}

-- which products are done
abbrev pub DoneAre : BoardJob → History → List Bool → Type 0
DoneAre j h done =
    (length done ≡ length j.products) × ((p : ℕ) → p < length j.products → slice_get done p ≡ Some (is_some (done_place h p)))
