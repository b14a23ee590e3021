use Rattle.std.proofs.Common.{◌≡◌, take}
use Rattle.source_model.specs.Statics.{kinds_of}
use Rattle.job_read.proofs.outcomes.kinds_of.Given as goal

abbrev pub invariant-loop-product : goal.invariant-loop-product
invariant-loop-product l = l.kinds.items ≡ kinds_of (take l.product-index l.products)
