use Rattle.std.proofs.Common.{◌≡◌, ◌≤◌, List, [], ◌∷◌, length, slice_get, ap, sym, ◌∙◌, subst}
use Rattle.source_model.specs.declared.Circuit.{Circuit}
use Rattle.magic_pool.specs.declared.Fail.{Fail}
use Rattle.outcome_table.specs.declared.Outcomes.{Outcomes}
use Rattle.side_tests.proofs.Keeps.{is_job}
use Rattle.side_tests.proofs.Two.{circuit_is, of_two, tables_of}
use Rattle.side_tests.proofs.carried.joined_job.Goals as goal

pub join_outcomes-requires : goal.join_outcomes-requires
join_outcomes-requires c =
    tables_of c.args.first.circuit c.args.second.circuit c.args.first.outcomes c.args.second.outcomes c.deref.result.now c.in_ok-tables.tables.items c.in-Ok.joined c.in-Ok.ensures.joined
    (c.deref.ensures.value ∙ c.in_ok-circuits.ensures.items) c.in_ok-tables.ensures.items c.requires.first c.requires.second c.requires.kinds c.requires.others

pub returns-clause-kept : goal.returns-clause-kept
returns-clause-kept c =
    let fails = c.in_ok-outcomes.ensures.fails c.args.first.outcomes (ap (λ (xs : List Outcomes). slice_get xs 0) c.in_ok-tables.ensures.items) in
    is_job (record { circuit = c.in-Ok.joined.circuit; products = c.of.result; layout = c.in-Ok-load_layout.layout; outcomes = c.in_ok-outcomes.outcomes })
    (record {
      circuit = circuit_is c.law_joined.ensures.letters c.deref.result.now c.args.first.circuit c.args.second.circuit c.in-Ok.joined c.in-Ok.ensures.joined c.in-Ok.ensures.well_formed c.in-Ok.ensures.products
          (c.deref.ensures.value ∙ c.in_ok-circuits.ensures.items) c.requires.first c.requires.second;
      products = c.of.ensures ∙ c.in_ok-products.ensures.products;
      same_kinds = c.law_kinds.ensures.statics c.in-Ok.joined.circuit.items;
      sound = c.in-Ok-load_layout.ensures.sound;
      open_for = c.in-Ok-load_layout.ensures.accepted.1;
      right_kinds = c.in_ok-outcomes.ensures.kinds;
      few_fails = subst (λ (fs : List Fail). length fs ≤ 4096) (sym fails) c.requires.few;
    })

pub returns-clause-two : goal.returns-clause-two
returns-clause-two c =
    of_two c.args.first.circuit c.args.second.circuit c.args.first.outcomes c.args.second.outcomes c.deref.result.now c.in_ok-tables.tables.items
    (record { circuit = c.in-Ok.joined.circuit; products = c.of.result; layout = c.in-Ok-load_layout.layout; outcomes = c.in_ok-outcomes.outcomes })
    c.in-Ok.joined.spans c.in-Ok.ensures.joined (c.deref.ensures.value ∙ c.in_ok-circuits.ensures.items) c.in_ok-tables.ensures.items c.requires.first c.requires.second c.requires.kinds c.requires.others
    c.in_ok-outcomes.ensures.given
