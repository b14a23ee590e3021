use Rattle.std.proofs.Common.{◌+◌, ◌∙◌, ap, length, subst, sym, arith, List, get_or}
use Rattle.std.proofs.lemmas.List.{length_push}
use Rattle.slice_write.specs.declared.factory.Factory.{Factory}
use Rattle.slice_write.specs.inside.Factories.{IsFresh}
use Rattle.slice_write.proofs.Starting.{fresh_more}
use Rattle.slice_write.proofs.ledger.factories.Goals as goal

pub loop-number-preserved : goal.loop-number-preserved
loop-number-preserved c = record {
  count = ap length c.in_ok-push.ensures.items ∙ length_push c.loop-number.factories.items c.in_ok-new.field-0 ∙ ap (λ n. n + 1) c.loop-number.invariant.count;
  fresh = λ f d low. (let P : List Factory → Type 0 = λ l. IsFresh c.args.fails.now f (get_or l f d) in
      subst P (sym c.in_ok-push.ensures.items) (fresh_more c.args.fails.now c.loop-number.factories.items c.in_ok-new.field-0 c.loop-number.number c.loop-number.invariant.count c.loop-number.invariant.fresh c.in_ok-new.ensures f d low));
}

pub returns : goal.returns
returns c = record {
  count = omega (arith, c.loop-number.invariant.count, c.loop-number-test.false, c.loop-number.auto.number-end);
  fresh = λ f d low. c.loop-number.invariant.fresh f d (omega (arith, low, c.loop-number-test.false));
}
