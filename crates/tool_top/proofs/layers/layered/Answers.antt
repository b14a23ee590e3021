use Rattle.std.proofs.Common.{◌≡◌, ℕ, ◌≤◌, List, length, sym, ◌∙◌, ap₂, subst, arith}
use Rattle.std.proofs.lemmas.Result.{IfOk-weaker}
use Rattle.source_model.specs.declared.Static.{Static}
use Rattle.source_model.specs.Statics.{statics}
use Rattle.board_core.specs.Laws.{ProductsOfLength}
use Rattle.board_core.specs.Uses.{IsOrderOf, all_axes, all_uses}
use Rattle.tool_top.specs.Layers.{AreLayersOf, layers_text}
use Rattle.tool_top.proofs.Layered.{few_statics, statics_long, few_numbers, within_numbers}
use Rattle.tool_top.proofs.layers.layered.Goals as goal

pub order_of-requires-clause-few : goal.order_of-requires-clause-few
order_of-requires-clause-few c =
    subst (λ (ss : List Static). length ss ≤ 16384) (sym (c.deref.ensures.value ∙ c.in_ok-products.ensures.products)) (few_statics c.args.circuit.now c.requires)

pub order_of-requires-clause-qubits : goal.order_of-requires-clause-qubits
order_of-requires-clause-qubits c =
    subst (λ (ss : List Static). (n : ℕ) × ProductsOfLength n ss) (sym (c.deref.ensures.value ∙ c.in_ok-products.ensures.products)) (statics_long c.args.circuit.now c.requires)

pub text_of-requires-clause-few : goal.text_of-requires-clause-few
text_of-requires-clause-few c =
    few_numbers c.deref.result.now c.in_ok-order.order c.in_ok-layers.layers c.as_slice.result.now
    (subst (λ (ss : List Static). length ss ≤ 16384) (sym (c.deref.ensures.value ∙ c.in_ok-products.ensures.products)) (few_statics c.args.circuit.now c.requires))
    c.in_ok-order.ensures c.in_ok-layers.ensures.layering c.as_slice.ensures

pub text_of-requires-clause-numbers : goal.text_of-requires-clause-numbers
text_of-requires-clause-numbers c =
    within_numbers c.deref.result.now c.in_ok-order.order c.in_ok-layers.layers c.as_slice.result.now c.in_ok-order.ensures c.in_ok-layers.ensures.layering c.as_slice.ensures

pub returns : goal.returns
returns c =
    let l = c.in_ok-layers.layers in
    let products = statics c.args.circuit.now.items in
    let order = subst (λ (ss : List Static). IsOrderOf ss c.in_ok-order.order) (c.deref.ensures.value ∙ c.in_ok-products.ensures.products) c.in_ok-order.ensures in
    let e = c.in_ok-layers.ensures in
    IfOk-weaker c.text_of.result (λ text. text.items ≡ layers_text c.as_slice.result.now l.count c.as_slice-2.result.now) (λ text. AreLayersOf c.args.circuit.now text.items)
    (λ text same. (
      l,
      record {
        layering = e.layering (all_axes products) (all_uses products) order;
        lowest = e.lowest (all_axes products) (all_uses products) order;
        fewest = e.fewest (all_axes products) (all_uses products) order;
        chain = e.chain (all_axes products) (all_uses products) order;
        as_long = e.as_long;
        traced = e.traced (all_axes products) (all_uses products) order;
      },
      same ∙ ap₂ (λ layer chain. layers_text layer l.count chain) c.as_slice.ensures c.as_slice-2.ensures,
    ))
    c.text_of.ensures

pub overflow_cast-len : goal.overflow_cast-len
overflow_cast-len c =
    let few = subst (λ (ss : List Static). length ss ≤ 16384) (sym (c.deref.ensures.value ∙ c.in_ok-products.ensures.products)) (few_statics c.args.circuit.now c.requires) in
    omega (arith, few)
