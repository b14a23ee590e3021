use Rattle.std.proofs.Common.{List, ℕ, ◌++◌, ◌∷◌, decimal, ap, ◌∙◌}
use Rattle.product_list.proofs.Printing.{register_put}
use Rattle.product_list.proofs.print.print_register.Goals as goal

pub returns : goal.returns
returns c =
    register_put c.args.register.now c.args.into.now.items c.push.new.self.items c.print_word.new.into.items c.print_number.new.into.items c.end_line.new.into.items
    c.in_ok-push.ensures.items (c.in_ok-print_word.ensures ∙ ap (λ (w : List ℕ). c.push.new.self.items ++ 32 ∷ w) c.bytes.ensures) (c.in_ok-print_number.ensures ∙ ap (λ m. c.print_word.new.into.items ++ 32 ∷ decimal m) c.from.ensures) c.in_ok-end_line.ensures
