use Rattle.std.proofs.Common.{◌≡◌, ap, sym, ◌∙◌, arith, subst}
use Rattle.std.specs.Prelude.{flat_map}
use Rattle.std.proofs.lemmas.List.{take_all}
use Rattle.source_model.specs.Circuits.{RightKinds}
use Rattle.outcome_table.specs.declared.Outcomes.{Outcomes}
use Rattle.side_by_side.proofs.Sharing.{tables_right}
use Rattle.side_by_side.proofs.tables.join_outcomes.Goals as goal

pub returns-clause-kinds : goal.returns-clause-kinds
returns-clause-kinds c =
    let whole : c.of.result ≡ flat_map (λ (t : Outcomes). t.given) c.args.tables.items =
    c.of.ensures
    ∙ c.loop-table.invariant
    ∙ ap (flat_map (λ (t : Outcomes). t.given)) (take_all c.loop-table.table-index c.deref-table-items.result.now (omega (arith, c.loop-table-test.false)) ∙ c.deref-table-items.ensures.value) in
    subst (RightKinds c.args.joined.now.circuit.items) (sym whole) (tables_right c.args.joined.now c.args.tables.items c.requires)
