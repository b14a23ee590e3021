use Rattle.std.proofs.Common.{◌≡◌, ◌++◌, List, length, vec_capacity}
use Rattle.std.specs.List.{All}
use Rattle.router_work.specs.inside.Workers.{HasSplit}
use Rattle.live_readout.specs.declared.worker.Worker.{Worker}
use Rattle.live_readout.specs.inside.Workers.{IsHired}
use Rattle.live_readout.proofs.crew.hire_makers.Given as goal

abbrev pub invariant-loop-factory : goal.invariant-loop-factory
invariant-loop-factory g l = record {
  hired : (more : List (Worker _)) × (l.workers.items ≡ l.fn.workers.items ++ more) × (length more ≡ l.factory-index)
      × All (IsHired l.grid (length l.fn.workers.items) (length l.factories)) more;
  capacity : vec_capacity l.workers ≡ vec_capacity l.fn.workers;
  first : HasSplit l.fn.first l.factory-index l.first;
}
