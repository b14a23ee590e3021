-- Arrivals that entries deliver.
use Rattle.std.specs.Prelude.{List, [], ◌∷◌, flat_map}
use Rattle.arrival_line.specs.declared.arrival.Arrival.{Arrival}
use Rattle.board_core.specs.declared.Entry.{Entry}
use Rattle.board_core.specs.declared.Entry.TheVariants.{Claim, Deliver, Release, Step, Settle}
use Rattle.board_core.specs.declared.Noted.{Noted}
use Rattle.live_readout.specs.Listed.{arrival}

-- the outcomes that entries deliver, as arrivals
abbrev pub arrivals_in : Entry → List Arrival
arrivals_in (Claim p axis port state cells) = []
arrivals_in (Deliver p g) = arrival p g ∷ []
arrivals_in (Release p) = []
arrivals_in (Step f) = []
arrivals_in (Settle p flip) = []

abbrev pub delivered_by : List Noted → List Arrival
delivered_by log = flat_map (λ (n : Noted). arrivals_in n.entry) log
