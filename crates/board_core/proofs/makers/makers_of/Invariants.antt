use Rattle.std.proofs.Common.{◌<◌}
use Rattle.board_core.specs.Limits.{AreFactories}
use Rattle.board_core.proofs.Gathering.{Gathered}
use Rattle.board_core.proofs.makers.makers_of.Given as goal

abbrev pub invariant-loop-factory : goal.invariant-loop-factory
invariant-loop-factory l = record {
  gathered : Gathered l.layout l.factory l.makers.items;
  ranges : 0 < l.factory → AreFactories l.layout;
}
