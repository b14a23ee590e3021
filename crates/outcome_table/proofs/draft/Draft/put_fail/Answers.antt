use Rattle.std.proofs.Common.{◌≡◌, ◌∷◌, ◌++◌, [], length, false, refl, sym, ◌∙◌, ap, arith, inr, inl, List}
use Rattle.magic_pool.specs.declared.Fail.{Fail}
use Rattle.magic_pool.specs.Recount.{is_listed}
use Rattle.outcome_table.specs.OutcomeText.{failing, fails_of}
use Rattle.outcome_table.proofs.Slots.{slots_stay}
use Rattle.outcome_table.proofs.Listed.{fails_push, listed_line, line_listed, listed_insert, found_is_there}
use Rattle.outcome_table.proofs.draft.Draft.put_fail.Goals as goal

pub returns-then-contains-clause-broken : goal.returns-then-contains-clause-broken
returns-then-contains-clause-broken c = λ kinds ls h.
    let x = c.args.fail in
    let there = found_is_there c.args.factories.now x.factory c.if-not-contains.ensures.cases in
    let e = ap (λ (xs : List Fail). is_listed xs x.factory x.run) (sym h.fails) ∙ sym (h.listed x.factory x.run) ∙ sym c.contains-2.ensures ∙ c.if-contains.true in
    inr (inr (inl (refl, there, listed_line ls x e)))

pub returns-then-len-ge-MOST_FAILS-clause-broken : goal.returns-then-len-ge-MOST_FAILS-clause-broken
returns-then-len-ge-MOST_FAILS-clause-broken c = λ kinds ls h.
    let x = c.args.fail in
    let there = found_is_there c.args.factories.now x.factory c.if-not-contains.ensures.cases in
    let e : is_listed (fails_of ls) x.factory x.run ≡ false = ap (λ (xs : List Fail). is_listed xs x.factory x.run) (sym h.fails) ∙ sym (h.listed x.factory x.run) ∙ sym c.contains-2.ensures ∙ c.if-contains.false in
    let few = ap length h.fails in
    let counted = c.args.self.now.fails.ok.0 in
    inr (inr (inr (refl, there, (λ k. let t = line_listed ls x k in cc), omega arith)))

pub returns-clause-kept : goal.returns-clause-kept
returns-clause-kept c = λ kinds ls h.
    let x = c.args.fail in
    let there = found_is_there c.args.factories.now x.factory c.if-not-contains.ensures.cases in
    let e : is_listed (fails_of ls) x.factory x.run ≡ false = ap (λ (xs : List Fail). is_listed xs x.factory x.run) (sym h.fails) ∙ sym (h.listed x.factory x.run) ∙ sym c.contains-2.ensures ∙ c.if-contains.false in
    let few = ap length h.fails in
    let counted = c.args.self.now.fails.ok.0 in
    let pushed = c.in_ok-push.ensures.items in (
      (there, (λ k. let t = line_listed ls x k in cc), omega arith),
      record {
        sized = h.sized;
        slots = slots_stay kinds ls c.args.self.now.table.items (failing x) (λ p g same. cc) h.slots;
        fails = pushed ∙ ap (λ (xs : List Fail). xs ++ x ∷ []) h.fails ∙ sym (fails_push ls x);
        listed = listed_insert c.args.self.now.listed c.insert.new.self c.args.self.now.fails.items c.push.new.self.items x c.in_ok-insert.ensures.updates h.listed pushed;
      },
    )
