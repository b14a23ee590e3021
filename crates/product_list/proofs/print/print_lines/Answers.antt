use Rattle.product_list.specs.Printed.{product_line}
use Rattle.product_list.proofs.Printing.{flat_more}
use Rattle.product_list.proofs.print.print_lines.Goals as goal

pub loop-product-preserved : goal.loop-product-preserved
loop-product-preserved c = flat_more (product_line c.args.registers.now) c.args.products.now c.loop-product.product-index c.product-item.result _ _ _ c.loop-product-test.true c.product-item.is c.loop-product.invariant c.in_ok-print_product.ensures
