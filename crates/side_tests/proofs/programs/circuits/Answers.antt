use Rattle.std.proofs.Common.{ap, arith, length, length-append}
use Rattle.std.proofs.lemmas.List.Elements.{All-same, All-push}
use Rattle.source_model.specs.declared.Circuit.{Circuit}
use Rattle.source_model.specs.Circuits.{WellFormed}
use Rattle.side_tests.proofs.programs.circuits.Goals as goal

pub loop-at-preserved : goal.loop-at-preserved
loop-at-preserved c = record {
  each = All-same WellFormed c.push.new.self.items _ c.in_ok-push.ensures.items (All-push WellFormed c.loop-at.list.items c.in_ok-circuit.field-0 c.loop-at.invariant.each c.in_ok-circuit.ensures.well_formed);
  count = omega (arith, ap length c.in_ok-push.ensures.items, length-append {A = Circuit}, c.loop-at.invariant.count);
}
