-- A table of outcomes as arrivals.
use Rattle.std.specs.Prelude.{ℕ, ◌+◌, List, [], ◌∷◌, ◌++◌}
use Rattle.source_model.specs.declared.Given.{Given}
use Rattle.source_model.specs.declared.Given.TheVariants as given
use Rattle.arrival_line.specs.declared.arrival.Arrival.{Arrival}

abbrev pub arrival : ℕ → Given → Arrival
arrival p g = record { product = p; given = g }

-- an outcome as an arrival; a settled product has none
abbrev pub arrivals_at : ℕ → Given → List Arrival
arrivals_at p (given.Rotation raw x) = arrival p (given.Rotation raw x) ∷ []
arrivals_at p (given.Measure raw) = arrival p (given.Measure raw) ∷ []
arrivals_at p given.Settled = []

-- those of the products from p on, in ascending order
abbrev pub listed_from : ℕ → List Given → List Arrival
listed_from p [] = []
listed_from p (g ∷ gs) = arrivals_at p g ++ listed_from (p + 1) gs

abbrev pub listed : List Given → List Arrival
listed given = listed_from 0 given
