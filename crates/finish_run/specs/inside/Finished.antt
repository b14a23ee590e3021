-- Products that are done up to one.
use Rattle.std.specs.Prelude.{ℕ, IsSome, ◌<◌}
use Rattle.board_core.specs.History.{History, done_place}

-- each product below p is done
abbrev pub DoneBelow : History → ℕ → Type 0
DoneBelow h p = (q : ℕ) → q < p → IsSome (done_place h q)
