use Rattle.std.proofs.Common.{◌++◌, ◌∷◌, decimal, ap, ◌∙◌}
use Rattle.product_list.proofs.Printing.{header_put}
use Rattle.product_list.proofs.print.print_header.Goals as goal

pub returns : goal.returns
returns c =
    header_put c.args.two c.args.qubits c.args.into.now.items c.extend_from_slice.new.self.items c.print_word.new.into.items c.print_number.new.into.items c.end_line.new.into.items c.version.result.now
    c.in_ok-extend_from_slice.ensures.items c.in_ok-print_word.ensures c.version.ensures (c.in_ok-print_number.ensures ∙ ap (λ m. c.print_word.new.into.items ++ 32 ∷ decimal m) c.from.ensures) c.in_ok-end_line.ensures
