use Rattle.std.proofs.Common.{◌≡◌, ◌++◌, length, map, vec_capacity}
use Rattle.std.specs.Vec.Iter.{into_iter_items, into_iter_len}
use Rattle.live_readout.specs.inside.Workers.{pass_of}
use Rattle.live_readout.proofs.crew.passes_of.Given as goal

abbrev pub invariant-loop-worker : goal.invariant-loop-worker
invariant-loop-worker g l = record {
  rest : l.yielded ++ into_iter_items l.worker-iterator ≡ l.fn.workers.items;
  left : into_iter_len l.worker-iterator ≡ length (into_iter_items l.worker-iterator);
  taken : l.passes.items ≡ map pass_of l.yielded;
  room : vec_capacity l.passes ≡ vec_capacity l.fn.passes;
}
