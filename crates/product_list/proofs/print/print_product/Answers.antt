use Rattle.product_list.proofs.Printing.{product_put}
use Rattle.product_list.proofs.print.print_product.Goals as goal

pub returns : goal.returns
returns c = product_put c.args.registers.now c.args.product.now _ _ _ c.in_ok-print_words.ensures c.in_ok-end_line.ensures
