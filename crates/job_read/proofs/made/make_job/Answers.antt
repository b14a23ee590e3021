use Rattle.std.proofs.Common.{◌≡◌, ℕ, List, codes, refl, sym, ◌∙◌, subst, arith}
use Rattle.std.proofs.lemmas.Result.{err_from_is_err_and}
use Rattle.source_model.specs.declared.Circuit.{Circuit}
use Rattle.patch_layout.specs.Grid.{Grid}
use Rattle.rotation_list.specs.Generated.{big_circuit, big_outcomes}
use Rattle.job_read.specs.Jobs.{LayoutStops, OutcomesStop}
use Rattle.job_read.specs.Stages.{LayoutStands, OutcomesStand}
use Rattle.job_read.specs.Made.{at_hand}
use Rattle.job_read.proofs.AtHand.{layout_stops, of_layout, of_outcomes, outcomes_stop, to_layout, to_outcomes}
use Rattle.job_read.proofs.Wholes.{is_job}
use Rattle.job_read.proofs.made.make_job.Goals as goal

pub returns-clause-made : goal.returns-clause-made
returns-clause-made c = record {
  circuit = c.in_ok-big.ensures.circuit;
  products = c.of.ensures ∙ c.in_ok-products.ensures.products;
  layout = of_layout c.args.n c.as_slice.result.now c.in_ok-big.big.circuit c.in_ok-big.ensures.circuit (λ (t : List ℕ) (d : Circuit). LayoutStands (codes "layout") (at_hand t) d c.in_ok-layout.layout) (c.as_slice.ensures ∙ c.in_ok-big.ensures.layout) c.in_ok-layout.ensures.accepted;
  outcomes = of_outcomes c.args.n c.as_slice-2.result.now c.in_ok-big.big.circuit c.in_ok-big.ensures.circuit (λ (t : List ℕ) (d : Circuit). OutcomesStand (at_hand t) d c.in_ok-layout.layout c.in_ok-outcomes.outcomes) (c.as_slice-2.ensures ∙ c.in_ok-big.ensures.outcomes) c.in_ok-outcomes.ensures.accepted;
}

pub returns-clause-kept : goal.returns-clause-kept
returns-clause-kept c =
    is_job (record { circuit = c.in_ok-big.big.circuit; products = c.of.result; layout = c.in_ok-layout.layout; outcomes = c.in_ok-outcomes.outcomes })
    (record {
      circuit = record {
        well_formed = c.in_ok-big.ensures.formed;
        few_products = omega (arith, c.in_ok-big.ensures.few);
        letters = c.in_ok-big.ensures.letters;
      };
      products = c.of.ensures ∙ c.in_ok-products.ensures.products;
      same_kinds = c.law_kinds.ensures.statics c.in_ok-big.big.circuit.items;
      sound = c.in_ok-layout.ensures.sound;
      open_for = c.in_ok-layout.ensures.accepted.1;
      right_kinds = c.in_ok-outcomes.ensures.kinds;
      few_fails = c.in_ok-outcomes.ensures.few;
    })

pub returns-in_err-layout-clause-because : goal.returns-in_err-layout-clause-because
returns-in_err-layout-clause-because c =
    let f = c.in_err-layout.field-0.0 in
    let p = err_from_is_err_and c.from_residual-in_err-layout.result c.from_residual-in_err-layout.ensures.1 in
    rw (p.1, p.2) (layout_stops c.args.n f
    (of_layout c.args.n c.as_slice.result.now c.in_ok-big.big.circuit c.in_ok-big.ensures.circuit (λ (t : List ℕ) (d : Circuit). LayoutStops (codes "layout") (at_hand t) d f) (c.as_slice.ensures ∙ c.in_ok-big.ensures.layout) c.in_err-layout.ensures.stops))

pub returns-in_err-outcomes-clause-because : goal.returns-in_err-outcomes-clause-because
returns-in_err-outcomes-clause-because c =
    let f = c.in_err-outcomes.field-0.0 in
    let p = err_from_is_err_and c.from_residual-in_err-outcomes.result c.from_residual-in_err-outcomes.ensures.1 in
    rw (p.1, p.2) (outcomes_stop c.args.n c.in_ok-layout.layout f
    (of_layout c.args.n c.as_slice.result.now c.in_ok-big.big.circuit c.in_ok-big.ensures.circuit (λ (t : List ℕ) (d : Circuit). LayoutStands (codes "layout") (at_hand t) d c.in_ok-layout.layout) (c.as_slice.ensures ∙ c.in_ok-big.ensures.layout) c.in_ok-layout.ensures.accepted)
    (of_outcomes c.args.n c.as_slice-2.result.now c.in_ok-big.big.circuit c.in_ok-big.ensures.circuit (λ (t : List ℕ) (d : Circuit). OutcomesStop (at_hand t) d c.in_ok-layout.layout f) (c.as_slice-2.ensures ∙ c.in_ok-big.ensures.outcomes) c.in_err-outcomes.ensures.stops))

pub returns-in_err-outcomes-clause-exact : goal.returns-in_err-outcomes-clause-exact
returns-in_err-outcomes-clause-exact c = λ job made.
    let p = err_from_is_err_and c.from_residual-in_err-outcomes.result c.from_residual-in_err-outcomes.ensures.1 in
    let layout = to_layout c.args.n c.as_slice.result.now c.in_ok-big.big.circuit c.in_ok-big.ensures.circuit (λ (t : List ℕ) (d : Circuit). LayoutStands (codes "layout") (at_hand t) d job.layout) (c.as_slice.ensures ∙ c.in_ok-big.ensures.layout) made.layout in
    let same : c.in_ok-layout.layout ≡ job.layout = c.in_ok-layout.ensures.exact job.layout (λ named. refl) layout in
    let outcomes = subst (λ (g : Grid). OutcomesStand (at_hand (big_outcomes c.args.n)) (big_circuit c.args.n) g job.outcomes) (sym same) made.outcomes in
    rw (p.1, p.2) (c.in_err-outcomes.ensures.exact job.outcomes refl
    (to_outcomes c.args.n c.as_slice-2.result.now c.in_ok-big.big.circuit c.in_ok-big.ensures.circuit (λ (t : List ℕ) (d : Circuit). OutcomesStand (at_hand t) d c.in_ok-layout.layout job.outcomes) (c.as_slice-2.ensures ∙ c.in_ok-big.ensures.outcomes) outcomes))
