use Rattle.std.proofs.Common.{◌≡◌, true}
use Rattle.crossbeam_channel.specs.Claims.{view, IsSeatAt}
use Rattle.crossbeam_channel.specs.Ends.{receives_on}
use Rattle.arrival_line.specs.Line.{traffic}
use Rattle.arrival_line.specs.Messages.{arrivals}
use Rattle.arrival_line.proofs.gather.drain.Given as goal

abbrev pub invariant-loop : goal.invariant-loop
invariant-loop g l = record {
  seat : IsSeatAt (receives_on l.from) l.pass;
  role : view l.pass ≡ traffic true true (view l.fn.pass).sent (view l.pass).got;
  kept : l.kept.items ≡ arrivals (view l.pass).got;
}
