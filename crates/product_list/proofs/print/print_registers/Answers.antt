use Rattle.product_list.specs.Printed.{register_text}
use Rattle.product_list.proofs.Printing.{flat_more}
use Rattle.product_list.proofs.print.print_registers.Goals as goal

pub loop-register-preserved : goal.loop-register-preserved
loop-register-preserved c = flat_more register_text c.args.registers.now c.loop-register.register-index c.register-item.result _ _ _ c.loop-register-test.true c.register-item.is c.loop-register.invariant c.in_ok-print_register.ensures
