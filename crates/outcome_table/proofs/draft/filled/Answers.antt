use Rattle.std.proofs.Common.{refl, inr, ◌∙◌, ap, Some}
use Rattle.std.proofs.lemmas.Option.{slice_get-get_or}
use Rattle.outcome_table.proofs.Filled.{none_before}
use Rattle.outcome_table.proofs.draft.filled.Goals as goal

pub returns-in-None-clause-least : goal.returns-in-None-clause-least
returns-in-None-clause-least c =
    let slots = c.args.slots.now in
    let p = c.loop-p.p in
    inr (p, refl, slice_get-get_or slots p _ c.loop-p-test.true ∙ ap Some c.in-None.is, λ q below. none_before slots c.loop-p.table.items p q c.loop-p.invariant below)
