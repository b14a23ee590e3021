use Rattle.std.proofs.Common.{◌+◌, ◌<◌, ◌≤◌, List, length, get_or, sym, arith, subst}
use Rattle.source_model.specs.declared.Register.{Register}
use Rattle.source_model.specs.Circuits.{bits_in}
use Rattle.side_by_side.proofs.Drafting.{firsts_small}
use Rattle.side_by_side.proofs.joining.Draft.add.Goals as goal

pub push_registers-requires : goal.push_registers-requires
push_registers-requires c k d l =
    let rs = c.args.circuit.now.registers in
    let shown = c.as_slice-registers.result.now in
    let small : (get_or shown k d).first ≤ 0 + bits_in rs =
    subst (λ (xs : List Register). k < length xs → (get_or xs k d).first ≤ 0 + bits_in rs) (sym c.as_slice-registers.ensures) (firsts_small 0 rs c.requires.circuit.firsts_run_on k d) l in
    omega (arith, small, c.requires.bits, c.requires.all.bits)
