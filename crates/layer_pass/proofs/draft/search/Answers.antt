use Rattle.std.proofs.Common.{◌<◌, length, subst, All, arith}
use Rattle.layer_pass.proofs.Rows.{earlier_rows}
use Rattle.layer_pass.proofs.Sets.{placed}
use Rattle.layer_pass.proofs.draft.search.Goals as goal

pub loop-reach-preserved : goal.loop-reach-preserved
loop-reach-preserved c =
    let m = c.loop-reach.invariant in
    let e = c.narrow-reach.ensures in
    let count = length c.args.rows.now in
    record {
      open_sets = e.fewer.0;
      to = e.to;
      next = λ h. let f = e.fewer.0 in (omega arith, omega arith);
      below = e.below count c.requires.within m.below;
      earlier = e.earlier m.earlier;
      end = e.end count c.requires.within m.end;
      told = λ ps us order silent. e.reach ps us c.args.layer.now c.args.rows.now order c.requires.layer c.requires.filled c.requires.lows (m.told ps us order silent);
    }

pub place_between-requires-clause-rows : goal.place_between-requires-clause-rows
place_between-requires-clause-rows c = subst (λ q. All (All (λ j. j < q)) c.args.rows.now) c.requires.layer (earlier_rows c.args.layer.now c.args.rows.now c.requires.filled)

pub returns-clause-place : goal.returns-clause-place
returns-clause-place c = λ ps us order silent.
    let e = c.place_between.ensures in
    let reach = c.loop-reach.reach in
    placed ps us c.args.layer.now c.args.rows.now c.args.p reach.place.below reach.place.blocker reach.end (c.loop-reach.invariant.told ps us order silent)
    c.place_between.result.below c.place_between.result.blocker c.requires.filled c.requires.layer e.low.0 e.kept (e.silent ps us order) (e.found ps us order)
