use Rattle.std.proofs.Common.{◌≡◌, ◌≢◌, ◌<◌, length, get_or, true, false, Option, Some, None, is_some, refl, sym, ◌∙◌, arith, inr}
use Rattle.std.specs.List.{slice_get}
use Rattle.std.proofs.Math.ListN.{length-set}
use Rattle.std.proofs.lemmas.Option.{slice_get_read, slice_get-get_or}
use Rattle.source_model.specs.Circuits.{IsOutcomeOf}
use Rattle.source_model.specs.declared.Given.{Given}
use Rattle.source_model.specs.declared.Kind.TheVariants.{Rotation}
use Rattle.outcome_table.proofs.Slots.{slots_put, stands_has, stands_none}
use Rattle.outcome_table.proofs.Listed.{fails_push_outcome}
use Rattle.outcome_table.proofs.draft.Draft.put_outcome.Goals as goal

not_none : (o : Option Given) → true ≡ is_some o → o ≢ None
not_none None e f = cc
not_none (Some g) e f = cc

is_none : (o : Option Given) → false ≡ is_some o → o ≡ None
is_none None e = refl
is_none (Some g) e = absurd (cc)

pub returns-then-is_some-clause-broken : goal.returns-then-is_some-clause-broken
returns-then-is_some-clause-broken c = λ factories ls h.
    let kinds = c.args.kinds.now in
    let p = c.args.product in
    let k = get_or kinds p Rotation in
    let inside : p < length kinds = omega arith in
    let slots = c.args.self.now.table.items in
    let long = h.sized in
    let at_p : slice_get kinds p ≡ Some k = slice_get-get_or kinds p Rotation inside in
    let fits : IsOutcomeOf k c.args.given = c.if-not-is_outcome_of.ensures.0 refl in
    let there = slice_get_read slots (length slots) p c.index.result.now refl (omega arith) c.index.ensures in
    let some = not_none c.index.result.now c.if-is_some.ensures in
    inr (inr (refl, (k, at_p, fits), stands_has ls p k c.index.result.now c.args.given fits c.requires.unsettled some (h.slots p k c.index.result.now at_p there)))

pub returns-clause-kept : goal.returns-clause-kept
returns-clause-kept c = λ factories ls h.
    let kinds = c.args.kinds.now in
    let p = c.args.product in
    let k = get_or kinds p Rotation in
    let inside : p < length kinds = omega arith in
    let slots = c.args.self.now.table.items in
    let long = h.sized in
    let at_p : slice_get kinds p ≡ Some k = slice_get-get_or kinds p Rotation inside in
    let fits : IsOutcomeOf k c.args.given = c.if-not-is_outcome_of.ensures.0 refl in
    let there = slice_get_read slots (length slots) p c.index.result.now refl (omega arith) c.index.ensures in
    let none = is_none c.index.result.now c.if-is_some.ensures in (
      ((k, at_p, fits), stands_none ls p k c.index.result.now none (h.slots p k c.index.result.now at_p there)),
      record {
        sized = length-set slots p (Some c.args.given) ∙ h.sized;
        slots = slots_put kinds ls slots p k c.args.given (omega arith) at_p fits h.slots;
        fails = h.fails ∙ sym (fails_push_outcome ls p c.args.given);
        listed = h.listed;
      },
    )
