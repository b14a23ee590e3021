use Rattle.std.proofs.Common.{◌≡◌, true, false, List, [], ◌++◌}
use Rattle.crossbeam_channel.specs.Claims.{view, IsSeatAt}
use Rattle.crossbeam_channel.specs.Ends.{receives_on}
use Rattle.arrival_line.specs.declared.arrival.Arrival.{Arrival}
use Rattle.arrival_line.specs.Line.{traffic}
use Rattle.arrival_line.specs.Messages.{arrivals}
use Rattle.arrival_line.proofs.receive.drop_rest.Given as goal

abbrev pub invariant-loop : goal.invariant-loop
invariant-loop g l = record {
  seat : IsSeatAt (receives_on l.from) l.pass;
  role : view l.pass ≡ traffic false true [] (view l.pass).got;
  more : (more : List Arrival) × (arrivals (view l.pass).got ≡ arrivals (view l.fn.pass).got ++ more);
}
