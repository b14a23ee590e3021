use Rattle.std.proofs.Common.{subst, inr, Result, Ok, Err, OnOk, IfErr}
use Rattle.outcome_table.specs.declared.line.Line.{Line as LineRead}
use Rattle.outcome_table.specs.inside.Drafts.{said}
use Rattle.outcome_table.specs.OutcomeText.{Spells, outcome}
use Rattle.outcome_table.proofs.draft.Draft.take.Goals as goal

on_ok : {T E : Type 0} (r : Result T E) (P Q : Type 0) → (P → Q) → OnOk r P → OnOk r Q
on_ok (Ok x) P Q f h = f h
on_ok (Err e) P Q f h = tt

if_err : {T E : Type 0} (r : Result T E) (P Q : E → Type 0) → ((e : E) → P e → Q e) → IfErr r P → IfErr r Q
if_err (Ok x) P Q f h = tt
if_err (Err e) P Q f h = f e h

pub returns-in-Some-Outcome-clause-kept : goal.returns-in-Some-Outcome-clause-kept
returns-in-Some-Outcome-clause-kept c =
    let P : LineRead → Type 0 = λ l. Spells c.args.text.now (said l) in
    let says = subst P c.in-Some-Outcome.field-0-is c.in-Some-Outcome.ensures.some in
    on_ok c.put_outcome.result _ _
    (λ kept ls h. let k = kept c.args.factories.now ls h in inr (outcome c.in-Some-Outcome.product c.in-Some-Outcome.given, says, k.0, k.1))
    c.put_outcome.ensures.kept

pub returns-in-Some-Outcome-clause-broken : goal.returns-in-Some-Outcome-clause-broken
returns-in-Some-Outcome-clause-broken c =
    let P : LineRead → Type 0 = λ l. Spells c.args.text.now (said l) in
    let says = subst P c.in-Some-Outcome.field-0-is c.in-Some-Outcome.ensures.some in
    if_err c.put_outcome.result _ _
    (λ f breaks ls h. inr (inr (outcome c.in-Some-Outcome.product c.in-Some-Outcome.given, says, breaks c.args.factories.now ls h)))
    c.put_outcome.ensures.broken
