use Rattle.std.proofs.Common.{List, sym, ◌∙◌, ap}
use Rattle.source_model.specs.declared.Static.{Static}
use Rattle.source_model.specs.SourceRun.{axes, bit_after}
use Rattle.source_model.specs.Statics.{statics, static_items}
use Rattle.static_products.proofs.pulls.statics.Goals as goal

pub returns-clause-axes : goal.returns-clause-axes
returns-clause-axes c = λ given.
    let found = c.in_ok-products.ensures ∙ ap statics c.as_slice.ensures in
    c.law_equal_runs.ensures.axes c.args.circuit.now.qubits c.args.circuit.now.items given c.requires.axes_fit ∙ ap (λ (ss : List Static). axes (static_items ss) given) (sym found)

pub returns-clause-bits : goal.returns-clause-bits
returns-clause-bits c = λ given bit.
    let found = c.in_ok-products.ensures ∙ ap statics c.as_slice.ensures in
    c.law_equal_runs.ensures.bits c.args.circuit.now.qubits c.args.circuit.now.items given bit c.requires.axes_fit ∙ ap (λ (ss : List Static). bit_after (static_items ss) given bit) (sym found)
