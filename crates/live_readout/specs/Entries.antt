-- What each worker of a live run makes.
use Rattle.arrival_line.specs.declared.arrival.Arrival.{Arrival}
use Rattle.board_core.specs.declared.Entry.{Entry}
use Rattle.board_core.specs.declared.Entry.TheVariants.{Claim, Deliver, Release, Step, Settle}
use Rattle.live_readout.specs.Listed.{arrival}

-- a router makes claims and settlings, and delivers nothing
abbrev pub IsTaking : Entry → Type 0
IsTaking (Claim p axis port state cells) = Unit {0}
IsTaking (Deliver p g) = ⊥
IsTaking (Release p) = ⊥
IsTaking (Step f) = ⊥
IsTaking (Settle p flip) = Unit {0}

-- the deliverer makes deliveries, of arrivals of which something holds, and releases
abbrev pub IsHanding : (Arrival → Type 0) → Entry → Type 0
IsHanding Fits (Claim p axis port state cells) = ⊥
IsHanding Fits (Deliver p g) = Fits (arrival p g)
IsHanding Fits (Release p) = Unit {0}
IsHanding Fits (Step f) = ⊥
IsHanding Fits (Settle p flip) = ⊥
