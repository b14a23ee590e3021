use Rattle.std.proofs.Common.{drop}
use Rattle.source_model.specs.Statics.{statics}
use Rattle.static_products.proofs.Pulling.{SoFar}
use Rattle.static_products.proofs.pulls.pulled.Given as goal

abbrev pub invariant-loop-item : goal.invariant-loop-item
invariant-loop-item l = SoFar l.qubits (statics l.items) l.frame l.products.items (drop l.item-index l.items)
