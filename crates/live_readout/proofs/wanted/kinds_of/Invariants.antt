use Rattle.std.proofs.Common.{◌≡◌, map, take}
use Rattle.source_model.specs.declared.Static.{Static}
use Rattle.live_readout.proofs.wanted.kinds_of.Given as goal

abbrev pub invariant-loop-product : goal.invariant-loop-product
invariant-loop-product l = l.kinds.items ≡ map (λ (s : Static). s.kind) (take l.product-index l.board.job.products)
