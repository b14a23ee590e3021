-- What the channel gave.
use Rattle.std.specs.Prelude.{List, [], ◌∷◌}
use Rattle.arrival_line.specs.declared.arrival.Arrival.{Arrival}
use Rattle.arrival_line.specs.declared.arrival.Message.{Message}
use Rattle.arrival_line.specs.declared.arrival.Message.TheVariants.{Arrived, End}
use Rattle.arrival_line.specs.declared.receive.Next.{Next}
use Rattle.arrival_line.specs.declared.receive.Next.TheVariants.{Came, Nothing, Ended, Closed}

abbrev pub came : Next → List Arrival
came (Came a) = a ∷ []
came Nothing = []
came Ended = []
came Closed = []

abbrev pub what_came : Message → Next
what_came (Arrived a) = Came a
what_came End = Ended

abbrev pub IsEnd : Next → Type 0
IsEnd (Came a) = ⊥
IsEnd Nothing = ⊥
IsEnd Ended = Unit {0}
IsEnd Closed = ⊥
