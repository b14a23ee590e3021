use Rattle.product_list.proofs.Printing.{list_put}
use Rattle.product_list.proofs.print.printed_list.Goals as goal

pub returns : goal.returns
returns c = list_put c.args.circuit.now c.args.products.now c.needs_two.result c.as_slice-registers.result.now _ _ _ _ c.new-text.ensures.items c.as_slice-registers.ensures c.needs_two.ensures c.in_ok-print_header.ensures c.in_ok-print_registers.ensures c.in_ok-print_lines.ensures
