-- What a deliverer has made after one more try.
use Rattle.std.specs.Prelude.{List, [], ◌∷◌, ◌++◌}
use Rattle.arrival_line.specs.declared.arrival.Arrival.{Arrival}
use Rattle.arrival_line.specs.declared.courier.Delivery.{Delivery}
use Rattle.arrival_line.specs.declared.courier.Delivery.TheVariants.{Later, Done, Never}

abbrev pub made_after : List Arrival → Arrival → Delivery → List Arrival
made_after made a Done = made ++ a ∷ []
made_after made a Later = made
made_after made a Never = made
