-- What is so once a feeder has ended.
use Rattle.std.specs.Prelude.{◌≡◌, true, false, List, [], ◌++◌}
use Rattle.crossbeam_channel.specs.Claims.{view}
use Rattle.std.specs.Bool.{OnTrue}
use Rattle.arrival_line.specs.declared.inbox.Inbox.{Inbox}
use Rattle.arrival_line.specs.declared.feed.Fed.{Fed}
use Rattle.arrival_line.specs.declared.receive.Received.{Received}
use Rattle.arrival_line.specs.declared.arrival.Arrival.{Arrival}
use Rattle.arrival_line.specs.Line.{traffic}
use Rattle.arrival_line.specs.Messages.{arrivals, handed_back}
use Rattle.arrival_line.specs.Strays.{Delivers}

abbrev pub HasFed : {R : Type 0} → (R → List Arrival) → R → Fed R → Type 0
HasFed left readout r =
    (view r.pass ≡ traffic true false (view r.pass).sent [])
    × (left readout ≡ (arrivals (view r.pass).sent ++ arrivals (handed_back r.back)) ++ left r.readout)

-- and a deliverer that began with the inbox
abbrev pub HasReceived : {C K : Type 0} → (C → List Arrival) → (C → K) → Inbox C → Received C → Type 0
HasReceived made key inbox r =
    (view r.pass ≡ traffic false true [] (view r.pass).got)
    × OnTrue r.whole (r.inbox.kept.items ≡ arrivals (view r.pass).got)
    × Delivers inbox.wanted.items (arrivals (view r.pass).got) (made inbox.courier) (made r.inbox.courier)
    × (key r.inbox.courier ≡ key inbox.courier)
