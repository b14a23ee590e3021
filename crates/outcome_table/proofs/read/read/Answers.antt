use Rattle.std.proofs.Common.{List, inl, inr, sym, ◌∙◌, subst, arith, Option}
use Rattle.source_model.specs.declared.Given.{Given}
use Rattle.magic_pool.specs.declared.Fail.{Fail}
use Rattle.outcome_table.specs.OutcomeText.{Asked, StandsFor}
use Rattle.outcome_table.specs.inside.Drafts.{IsFirstEmpty}
use Rattle.std.proofs.lemmas.Result.{err_from_is_err_and}
use Rattle.outcome_table.proofs.Reading.{misses, stands}
use Rattle.outcome_table.proofs.read.read.Goals as goal

pub returns-in_err-filled-clause-refused : goal.returns-in_err-filled-clause-refused
returns-in_err-filled-clause-refused c =
    let a : Asked = record { kinds = c.args.kinds.now; factories = c.args.factories.now } in
    let p = err_from_is_err_and c.from_residual-in_err-filled.result c.from_residual-in_err-filled.ensures.1 in
    let P : List (Option Given) → Type 0 = λ slots. IsFirstEmpty slots c.in_err-filled.field-0.0 in
    rw (p.1, p.2) (elim c.in_err-filled.ensures.least [
      | inl e ↦ inl e
      | inr least ↦ inr (misses a c.args.text.now _ c.in_ok-draft.draft c.in_err-filled.field-0.0 (omega arith) c.in-Some.ensures.some.1 c.in_ok-draft.ensures.read (subst P c.deref.ensures.value least))
    ])

pub returns-clause-accepted : goal.returns-clause-accepted
returns-clause-accepted c =
    let a : Asked = record { kinds = c.args.kinds.now; factories = c.args.factories.now } in
    let table = c.in_ok-filled.field-0.items in
    let P : List Given → Type 0 = λ t. StandsFor a c.args.text.now t c.of-2.result in
    let Q : List Fail → Type 0 = λ fs. StandsFor a c.args.text.now table fs in
    let full = sym c.deref.ensures.value ∙ c.in_ok-filled.ensures.full in
    subst P (sym c.of.ensures) (subst Q (sym c.of-2.ensures)
    (stands a c.args.text.now _ c.in_ok-draft.draft table (omega arith) c.in-Some.ensures.some.1 c.in_ok-draft.ensures.read full))
