use Rattle.std.proofs.Common.{◌≡◌, ◌-◌, get_or, arith, sym, ap, ◌∙◌, inl, inr, subst, List}
use Rattle.std.specs.List.Sorted.{IsNonDecreasingBy}
use Rattle.std.proofs.lemmas.List.{get_or_read}
use Rattle.std.proofs.lemmas.Bool.{cases_lt}
use Rattle.slice_write.specs.declared.placed.Placed.{Placed}
use Rattle.slice_write.proofs.Clashing.{place_sorted}
use Rattle.slice_write.proofs.clashes.place.Goals as goal
use Rattle.slice_write.proofs.clashes.place.Goals.{then-loop-at-test+else-index-more, else-loop-at-test}

pub loop-at-preserved : goal.loop-at-preserved
loop-at-preserved c =
    let (within, above) = c.loop-at.invariant in (
      omega (arith, within),
      λ k d low inside. elim (cases_lt k c.loop-at.at) [
        | inl here ↦
            let e : k ≡ c.loop-at.at - 1 = omega arith in
            let is : c.index.result.now.slice ≡ (get_or c.args.placed.now.items k d).slice = ap (λ (z : Placed). z.slice) (get_or_read c.args.placed.now.items (c.loop-at.at - 1) c.index.result.now (omega arith) c.index.ensures d ∙ ap (λ n. get_or c.args.placed.now.items n d) (sym e)) in
            omega (arith, is, c.if-index-more.true)
        | inr later ↦ above k d later inside
      ],
    )

pub returns : goal.returns
returns c =
    let (within, above) = c.loop-at.invariant in
    let P : List Placed → Type 0 = λ l. IsNonDecreasingBy (λ (x : Placed). x.slice) l in
    let sorted = place_sorted c.args.placed.now.items c.loop-at.at c.args.more c.requires within above (elim c.loop-at-test.branch [
      | then-loop-at-test+else-index-more w ↦ λ some. (w.index.result.now, w.index.ensures, w.if-index-more.false)
      | else-loop-at-test w ↦ λ some. absurd (omega (arith, w.loop-at-test.false))
    ]) in
    record {
      inserted = (c.loop-at.at, within, c.in_ok-insert.ensures.items);
      sorted = subst P (sym c.in_ok-insert.ensures.items) sorted;
    }
