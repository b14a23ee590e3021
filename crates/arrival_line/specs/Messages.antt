-- The messages of one feed: arrivals, and an end message that stands last.
use Rattle.std.specs.Prelude.{Bool, true, false, List, [], ◌∷◌, Option, Some, None}
use Rattle.arrival_line.specs.declared.arrival.Arrival.{Arrival}
use Rattle.arrival_line.specs.declared.arrival.Message.{Message}
use Rattle.arrival_line.specs.declared.arrival.Message.TheVariants.{Arrived, End}

-- the arrivals, in order
abbrev pub arrivals : List Message → List Arrival
arrivals [] = []
arrivals (Arrived a ∷ ms) = a ∷ arrivals ms
arrivals (End ∷ ms) = arrivals ms

-- there is no end message yet
abbrev pub is_open : List Message → Bool
is_open [] = true
is_open (Arrived a ∷ ms) = is_open ms
is_open (End ∷ ms) = false

-- an end message stands last or nowhere
abbrev pub ends_last : List Message → Bool
ends_last [] = true
ends_last (Arrived a ∷ ms) = ends_last ms
ends_last (End ∷ []) = true
ends_last (End ∷ m ∷ ms) = false

-- the message that was handed back, if any
abbrev pub handed_back : Option Message → List Message
handed_back None = []
handed_back (Some m) = m ∷ []
