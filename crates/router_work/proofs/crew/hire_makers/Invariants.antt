use Rattle.std.proofs.Common.{◌≡◌, ◌++◌, List, length, vec_capacity}
use Rattle.std.specs.List.{All}
use Rattle.source_model.specs.declared.Given.{Given}
use Rattle.router_work.specs.declared.worker.Worker.{Worker}
use Rattle.router_work.specs.inside.Workers.{HasSplit, IsHired}
use Rattle.router_work.proofs.crew.hire_makers.Given as goal

abbrev pub invariant-loop-factory : goal.invariant-loop-factory
invariant-loop-factory g l = record {
  hired : (more : List (Worker _)) × (l.workers.items ≡ l.fn.workers.items ++ more) × (length more ≡ l.factory-index) × ((given : List Given) → All (IsHired l.grid given (length l.fn.workers.items)) more);
  capacity : vec_capacity l.workers ≡ vec_capacity l.fn.workers;
  first : HasSplit l.fn.first l.factory-index l.first;
}
