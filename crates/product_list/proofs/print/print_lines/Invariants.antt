use Rattle.std.proofs.Common.{◌≡◌, ◌++◌, take}
use Rattle.std.specs.List.{flat_map}
use Rattle.product_list.specs.Printed.{product_line}
use Rattle.product_list.proofs.print.print_lines.Given as goal

abbrev pub invariant-loop-product : goal.invariant-loop-product
invariant-loop-product l = l.into.items ≡ l.fn.into.items ++ flat_map (product_line l.registers) (take l.product-index l.products)
