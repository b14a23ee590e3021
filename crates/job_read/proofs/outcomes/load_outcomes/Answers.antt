use Rattle.std.proofs.Common.{◌≡◌, ℕ, List, ap, sym, ◌∙◌, subst}
use Rattle.std.proofs.lemmas.Result.{err_from_is_err_and}
use Rattle.source_model.specs.Statics.{kinds_of}
use Rattle.outcome_table.specs.OutcomeText.{Asked, StandsFor, Refuses}
use Rattle.outcome_table.specs.declared.fault.OutcomeFault.TheVariants as fault
use Rattle.std.proofs.Common.{◌⊎◌}
use Rattle.job_read.specs.Reading.{seen}
use Rattle.job_read.specs.Stages.{asked_by}
use Rattle.job_read.proofs.Cut.{cut_told, told_cut}
use Rattle.job_read.proofs.Tables.{asked_is, few_fails, outside, refusals_alike, same_outcomes, stops, tables_alike, told_fault}
use Rattle.job_read.proofs.outcomes.load_outcomes.Goals as goal

pub returns-in_err-outcomes-clause-stops : goal.returns-in_err-outcomes-clause-stops
returns-in_err-outcomes-clause-stops g c =
    let p = err_from_is_err_and c.from_residual-in_err-outcomes.result c.from_residual-in_err-outcomes.ensures.1 in
    let asked = asked_is c.deref-2.result.now c.deref-3.result.now c.args.circuit.now c.args.layout.now
    (c.deref-2.ensures.value ∙ c.in_ok-kinds.ensures ∙ ap kinds_of c.requires.products ∙ c.law_kinds.ensures.statics c.args.circuit.now.items) (c.deref-3.ensures.value ∙ c.in_ok-factories.ensures) in
    let refused = subst (λ (a : Asked). (c.in_err-outcomes.field-0.0 ≡ fault.Memory) ⊎ Refuses a c.deref.result.now c.in_err-outcomes.field-0.0) asked c.in_err-outcomes.ensures.refused in
    rw (p.1, p.2)
    (stops (seen (g.S.Shelf.tells c.args.shelf.now) (g.S.Shelf.faults c.args.shelf.now) (g.S.Shelf.faults c.read_limited.new.shelf) c.args.name.now) c.args.circuit.now c.args.layout.now
    c.in_ok-text.text.items c.in_err-outcomes.field-0.0 c.in_ok-text.ensures.text (rw c.deref.ensures.value at refused))

pub returns-in_err-outcomes-clause-exact : goal.returns-in_err-outcomes-clause-exact
returns-in_err-outcomes-clause-exact g c = λ o told stands.
    let p = err_from_is_err_and c.from_residual-in_err-outcomes.result c.from_residual-in_err-outcomes.ensures.1 in
    let asked = asked_is c.deref-2.result.now c.deref-3.result.now c.args.circuit.now c.args.layout.now
    (c.deref-2.ensures.value ∙ c.in_ok-kinds.ensures ∙ ap kinds_of c.requires.products ∙ c.law_kinds.ensures.statics c.args.circuit.now.items) (c.deref-3.ensures.value ∙ c.in_ok-factories.ensures) in
    let whole = told_cut (g.S.Shelf.tells c.args.shelf.now c.args.name.now) (λ (t : List ℕ). StandsFor (asked_by c.args.circuit.now c.args.layout.now) t o.given o.fails) c.in_ok-text.text.items
    (tables_alike (asked_by c.args.circuit.now c.args.layout.now) o.given o.fails) told c.in_ok-text.ensures.text stands in
    rw (p.1, p.2) (outside c.in_err-outcomes.field-0.0 (c.in_err-outcomes.ensures.exact o.given o.fails
    (rw c.deref.ensures.value (subst (λ (a : Asked). StandsFor a c.in_ok-text.text.items o.given o.fails) (sym asked) whole))))

pub returns-in_err-outcomes-clause-faults : goal.returns-in_err-outcomes-clause-faults
returns-in_err-outcomes-clause-faults g c = λ f told refused.
    let p = err_from_is_err_and c.from_residual-in_err-outcomes.result c.from_residual-in_err-outcomes.ensures.1 in
    let asked = asked_is c.deref-2.result.now c.deref-3.result.now c.args.circuit.now c.args.layout.now
    (c.deref-2.ensures.value ∙ c.in_ok-kinds.ensures ∙ ap kinds_of c.requires.products ∙ c.law_kinds.ensures.statics c.args.circuit.now.items) (c.deref-3.ensures.value ∙ c.in_ok-factories.ensures) in
    let whole = told_cut (g.S.Shelf.tells c.args.shelf.now c.args.name.now) (λ (t : List ℕ). Refuses (asked_by c.args.circuit.now c.args.layout.now) t f) c.in_ok-text.text.items
    (refusals_alike (asked_by c.args.circuit.now c.args.layout.now) f) told c.in_ok-text.ensures.text refused.1 in
    rw (p.1, p.2) (told_fault c.in_err-outcomes.field-0.0 f refused.0 (c.in_err-outcomes.ensures.faults f
    (rw c.deref.ensures.value (subst (λ (a : Asked). Refuses a c.in_ok-text.text.items f) (sym asked) whole))))

pub returns-clause-accepted : goal.returns-clause-accepted
returns-clause-accepted g c =
    let asked = asked_is c.deref-2.result.now c.deref-3.result.now c.args.circuit.now c.args.layout.now
    (c.deref-2.ensures.value ∙ c.in_ok-kinds.ensures ∙ ap kinds_of c.requires.products ∙ c.law_kinds.ensures.statics c.args.circuit.now.items) (c.deref-3.ensures.value ∙ c.in_ok-factories.ensures) in
    let stands = subst (λ (a : Asked). StandsFor a c.deref.result.now c.in_ok-outcomes.outcomes.given c.in_ok-outcomes.outcomes.fails) asked c.in_ok-outcomes.ensures.accepted in
    cut_told (g.S.Shelf.tells c.args.shelf.now c.args.name.now) (λ (t : List ℕ). StandsFor (asked_by c.args.circuit.now c.args.layout.now) t c.in_ok-outcomes.outcomes.given c.in_ok-outcomes.outcomes.fails) c.in_ok-text.text.items
    (tables_alike (asked_by c.args.circuit.now c.args.layout.now) c.in_ok-outcomes.outcomes.given c.in_ok-outcomes.outcomes.fails) c.in_ok-text.ensures.text (rw c.deref.ensures.value at stands)

pub returns-clause-kinds : goal.returns-clause-kinds
returns-clause-kinds g c =
    let asked = asked_is c.deref-2.result.now c.deref-3.result.now c.args.circuit.now c.args.layout.now
    (c.deref-2.ensures.value ∙ c.in_ok-kinds.ensures ∙ ap kinds_of c.requires.products ∙ c.law_kinds.ensures.statics c.args.circuit.now.items) (c.deref-3.ensures.value ∙ c.in_ok-factories.ensures) in
    let stands = subst (λ (a : Asked). StandsFor a c.deref.result.now c.in_ok-outcomes.outcomes.given c.in_ok-outcomes.outcomes.fails) asked c.in_ok-outcomes.ensures.accepted in
    stands.kinds

pub returns-clause-few : goal.returns-clause-few
returns-clause-few g c =
    few_fails (record { kinds = c.deref-2.result.now; factories = c.deref-3.result.now }) c.deref.result.now c.in_ok-outcomes.outcomes.given c.in_ok-outcomes.outcomes.fails c.in_ok-outcomes.ensures.accepted

pub returns-clause-exact : goal.returns-clause-exact
returns-clause-exact g c = λ o told stands.
    let asked = asked_is c.deref-2.result.now c.deref-3.result.now c.args.circuit.now c.args.layout.now
    (c.deref-2.ensures.value ∙ c.in_ok-kinds.ensures ∙ ap kinds_of c.requires.products ∙ c.law_kinds.ensures.statics c.args.circuit.now.items) (c.deref-3.ensures.value ∙ c.in_ok-factories.ensures) in
    let whole = told_cut (g.S.Shelf.tells c.args.shelf.now c.args.name.now) (λ (t : List ℕ). StandsFor (asked_by c.args.circuit.now c.args.layout.now) t o.given o.fails) c.in_ok-text.text.items
    (tables_alike (asked_by c.args.circuit.now c.args.layout.now) o.given o.fails) told c.in_ok-text.ensures.text stands in
    same_outcomes c.in_ok-outcomes.outcomes o (c.in_ok-outcomes.ensures.exact o.given o.fails
    (rw c.deref.ensures.value (subst (λ (a : Asked). StandsFor a c.in_ok-text.text.items o.given o.fails) (sym asked) whole)))

pub returns-clause-faults : goal.returns-clause-faults
returns-clause-faults g c = λ f told refused.
    let asked = asked_is c.deref-2.result.now c.deref-3.result.now c.args.circuit.now c.args.layout.now
    (c.deref-2.ensures.value ∙ c.in_ok-kinds.ensures ∙ ap kinds_of c.requires.products ∙ c.law_kinds.ensures.statics c.args.circuit.now.items) (c.deref-3.ensures.value ∙ c.in_ok-factories.ensures) in
    let whole = told_cut (g.S.Shelf.tells c.args.shelf.now c.args.name.now) (λ (t : List ℕ). Refuses (asked_by c.args.circuit.now c.args.layout.now) t f) c.in_ok-text.text.items
    (refusals_alike (asked_by c.args.circuit.now c.args.layout.now) f) told c.in_ok-text.ensures.text refused.1 in
    c.in_ok-outcomes.ensures.faults f (rw c.deref.ensures.value (subst (λ (a : Asked). Refuses a c.in_ok-text.text.items f) (sym asked) whole))
