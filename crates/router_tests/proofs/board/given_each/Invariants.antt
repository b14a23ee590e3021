use Rattle.std.proofs.Common.{take}
use Rattle.source_model.specs.Circuits.{OutcomesOf}
use Rattle.source_model.specs.Statics.{kinds_of}
use Rattle.router_tests.proofs.board.given_each.Given as goal

abbrev pub invariant-loop-product : goal.invariant-loop-product
invariant-loop-product l = OutcomesOf (kinds_of (take l.product-index l.products)) l.given.items
