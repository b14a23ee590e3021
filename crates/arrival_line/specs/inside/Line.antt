-- The rule of the channel. What was sent is what was received and then what the channel holds, and an end message stands last.
use Rattle.std.specs.Prelude.{◌≡◌, ℕ, true, List, ◌++◌}
use mathlib.Core.Option.{some}
use lib.ListN.{get_elem?}
use Rattle.arrival_line.specs.declared.arrival.Message.{Message}
use Rattle.arrival_line.specs.declared.arrival.Traffic.{Traffic}
use Rattle.arrival_line.specs.Messages.{ends_last}

abbrev pub Fits : ℕ → ℕ → List Message → List Message → ℕ → Traffic → Type 0
Fits sender receiver sent got pass v = (v.sends ≡ true → (pass ≡ sender) × (v.sent ≡ sent)) × (v.receives ≡ true → (pass ≡ receiver) × (v.got ≡ got))

abbrev pub InOrder : List Message → List Traffic → Type 0
InOrder items views = (sender : ℕ) × (receiver : ℕ) × (sent : List Message) × (got : List Message) × (sent ≡ got ++ items) × (ends_last sent ≡ true)
    × ((pass : ℕ) (v : Traffic) → get_elem? views pass ≡ some v → Fits sender receiver sent got pass v)
