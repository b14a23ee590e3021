use Rattle.std.proofs.Common.{◌≡◌, true, false, []}
use Rattle.crossbeam_channel.specs.Claims.{view, IsSeatAt}
use Rattle.crossbeam_channel.specs.Ends.{receives_on}
use Rattle.arrival_line.specs.Line.{traffic}
use Rattle.arrival_line.specs.Messages.{arrivals}
use Rattle.arrival_line.specs.inside.Inboxes.{IsSince}
use Rattle.arrival_line.proofs.receive.receive.Given as goal

abbrev pub invariant-loop : goal.invariant-loop
invariant-loop g l = record {
  seat : IsSeatAt (receives_on l.from) l.pass;
  role : view l.pass ≡ traffic false true [] (view l.pass).got;
  kept : l.inbox.kept.items ≡ arrivals (view l.pass).got;
  key : g.C.Courier.key l.inbox.courier ≡ g.C.Courier.key l.fn.inbox.courier;
  since : IsSince g.C.Courier.made l.fn.inbox.wanted.items (g.C.Courier.made l.fn.inbox.courier) l.inbox;
}
