use Rattle.std.proofs.Common.{◌≡◌, true, false, [], ◌++◌}
use Rattle.crossbeam_channel.specs.Claims.{view, IsSeatAt}
use Rattle.crossbeam_channel.specs.Ends.{sends_on}
use Rattle.arrival_line.specs.Line.{traffic}
use Rattle.arrival_line.specs.Messages.{arrivals, is_open}
use Rattle.arrival_line.proofs.feed.feed.Given as goal

abbrev pub invariant-loop : goal.invariant-loop
invariant-loop g l = record {
  seat : IsSeatAt (sends_on l.to) l.pass;
  role : view l.pass ≡ traffic true false (view l.pass).sent [];
  unended : is_open (view l.pass).sent ≡ true;
  all : g.R.Readout.left l.fn.readout ≡ arrivals (view l.pass).sent ++ g.R.Readout.left l.readout;
}
