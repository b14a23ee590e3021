use Rattle.std.proofs.Common.{◌≡◌, take}
use Rattle.board_core.specs.Uses.{all_axes, all_uses}
use Rattle.board_core.proofs.waiting.order_of.Given as goal

abbrev pub invariant-loop-product : goal.invariant-loop-product
invariant-loop-product l = record { axes_are : l.axes.items ≡ all_axes (take l.product-index l.products); uses_are : l.uses.items ≡ all_uses (take l.product-index l.products) }
