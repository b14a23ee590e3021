use Rattle.std.proofs.Common.{arith}
use Rattle.std.proofs.lemmas.List.{drop_more}
use Rattle.qasm_parse.specs.declared.tree.Gate1.TheVariants.{Id}
use Rattle.qasm_expand.specs.declared.flat.Flat.TheVariants.{Gate1}
use Rattle.rotation_list.proofs.Programs.{items_all, items_more, hidden_more}
use Rattle.rotation_list.proofs.items.program_items.Goals as goal

pub loop-flat-preserved : goal.loop-flat-preserved
loop-flat-preserved c =
    let fs = c.args.flats.now in
    let i = c.loop-flat.flat-index in
    let next = drop_more fs i (Gate1 Id 0) c.loop-flat-test.true in
    record {
      items = items_more c.args.qubits c.args.bits i c.loop-flat.hidden c.hidden_in-hidden.result fs _ _ _ _ c.loop-flat.invariant.items next c.in_ok-push_flat.ensures c.hidden_in-hidden.ensures.value;
      hidden = hidden_more i c.loop-flat.hidden c.hidden_in-hidden.result fs _ c.loop-flat.invariant.hidden next c.hidden_in-hidden.ensures.value;
      few = omega (arith, c.loop-flat.invariant.few, c.hidden_in-hidden.ensures.few);
    }

pub returns-clause-items : goal.returns-clause-items
returns-clause-items c = items_all c.args.qubits c.args.bits c.loop-flat.flat-index c.loop-flat.hidden c.args.flats.now _ _ c.loop-flat.invariant.items c.loop-flat-test.false
