use Rattle.std.proofs.Common.{◌≡◌}
use Rattle.arrival_line.specs.inside.Inboxes.{GoesOn}
use Rattle.arrival_line.proofs.inbox.Inbox.finish.Given as goal

abbrev pub invariant-loop : goal.invariant-loop
invariant-loop g l = record {
  key : g.C.Courier.key l.self.courier ≡ g.C.Courier.key l.fn.self.courier;
  kept : l.self.kept.items ≡ l.fn.self.kept.items;
  goes_on : GoesOn g.C.Courier.made l.fn.self l.self;
}
