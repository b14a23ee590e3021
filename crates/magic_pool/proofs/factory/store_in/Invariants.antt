use Rattle.std.proofs.Common.{◌≡◌, length}
use Rattle.std.specs.List.{All}
use Rattle.magic_pool.specs.Makers.{IsMaker}
use Rattle.magic_pool.specs.Pooled.{store_of}
use Rattle.magic_pool.proofs.factory.store_in.Given as goal

abbrev pub invariant-loop-rest : goal.invariant-loop-rest
invariant-loop-rest l = record {
  store : store_of l.makers l.factory ≡ store_of l.rest l.factory;
  each : All IsMaker l.rest;
}

abbrev pub decreases-loop-rest : goal.decreases-loop-rest
decreases-loop-rest l = length l.rest
