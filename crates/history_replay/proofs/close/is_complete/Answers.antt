use Rattle.std.proofs.Common.{arith, ap, length, refl}
use Rattle.std.proofs.lemmas.Option.{slice_get_within}
use Rattle.history_replay.proofs.Outcomes.{over_more}
use Rattle.history_replay.proofs.close.is_complete.Goals as goal

pub loop-p-preserved : goal.loop-p-preserved
loop-p-preserved c = λ q s low at.
    over_more c.args.board.now c.products-product-items.result.now c.loop-p.p c.product-item.result c.products-product-items.ensures c.product-item.is (c.is_over.ensures.0 c.if-not-is_over.false) c.loop-p.invariant q s low at

pub returns : goal.returns
returns c = (
  λ t p s at. let low = slice_get_within c.args.board.now.job.products p s at in
      let same = ap length c.products-product-items.ensures in
      c.loop-p.invariant p s (omega (arith, low, same)) at,
  λ f. refl,
)
