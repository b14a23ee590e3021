use Rattle.std.proofs.Common.{◌≤◌, refl, arith}
use Rattle.std.proofs.lemmas.Option.{slice_get-get_or}
use Rattle.region_plan.proofs.Grafting.{back_start, back_within, back_new, back_more, back_done, head_within, follows_none, leading_met, leading_size, leading_free}
use Rattle.region_plan.proofs.growth.follow.Goals as goal

pub returns-in_default-clause-followed : goal.returns-in_default-clause-followed
returns-in_default-clause-followed c g held side leading = follows_none g held side c.args.tree.now c.args.queue.now c.args.met c.in_default.is leading

pub back-init : goal.back-init
back-init c = (
  λ g held side leading.
      let some = leading_met g held side c.args.tree.now c.args.queue.now c.args.met c.in-Some.start c.in-Some.is leading in
      back_start g held side c.args.tree.now c.args.queue.now c.in-Some.start _ some
      (slice_get-get_or c.args.queue.now c.in-Some.start.head (record { cell = 0; from = 0; steps = 0 }) (head_within g held side c.args.tree.now c.args.queue.now c.in-Some.start some)),
  refl,
)

pub bounds-queue-at : goal.bounds-queue-at
bounds-queue-at c =
    let w = back_within c.requires.0 c.requires.1 c.requires.2 c.args.tree.now.tree c.args.queue.now c.back.tree.tree c.back.at c.back.place (c.back.invariant.0 c.requires.0 c.requires.1 c.requires.2 c.requires.3) in w.0

pub push-requires-clause-cell : goal.push-requires-clause-cell
push-requires-clause-cell c =
    let back = c.back.invariant.0 c.requires.0 c.requires.1 c.requires.2 c.requires.3 in
    let w = back_within c.requires.0 c.requires.1 c.requires.2 c.args.tree.now.tree c.args.queue.now c.back.tree.tree c.back.at c.back.place back in
    let is = slice_get-get_or c.args.queue.now c.back.at.from (record { cell = 0; from = 0; steps = 0 }) w.0 in
    let n = back_new c.requires.0 c.requires.1 c.requires.2 c.args.tree.now.tree c.args.queue.now c.back.tree.tree c.back.at _ c.back.place back is c.back-test.true in
    let size = leading_size c.requires.0 c.requires.1 c.requires.2 c.args.tree.now c.args.queue.now c.in-Some.start
    (leading_met c.requires.0 c.requires.1 c.requires.2 c.args.tree.now c.args.queue.now c.args.met c.in-Some.start c.in-Some.is c.requires.3) in
    omega (arith, n.1, c.back.invariant.1, size)

pub push-requires-clause-new : goal.push-requires-clause-new
push-requires-clause-new c =
    let back = c.back.invariant.0 c.requires.0 c.requires.1 c.requires.2 c.requires.3 in
    let w = back_within c.requires.0 c.requires.1 c.requires.2 c.args.tree.now.tree c.args.queue.now c.back.tree.tree c.back.at c.back.place back in
    let is = slice_get-get_or c.args.queue.now c.back.at.from (record { cell = 0; from = 0; steps = 0 }) w.0 in
    let n = back_new c.requires.0 c.requires.1 c.requires.2 c.args.tree.now.tree c.args.queue.now c.back.tree.tree c.back.at _ c.back.place back is c.back-test.true in n.0

pub push-requires-clause-from : goal.push-requires-clause-from
push-requires-clause-from c =
    let w = back_within c.requires.0 c.requires.1 c.requires.2 c.args.tree.now.tree c.args.queue.now c.back.tree.tree c.back.at c.back.place (c.back.invariant.0 c.requires.0 c.requires.1 c.requires.2 c.requires.3) in w.1

pub back-smaller : goal.back-smaller
back-smaller c =
    let back = c.back.invariant.0 c.requires.0 c.requires.1 c.requires.2 c.requires.3 in
    let w = back_within c.requires.0 c.requires.1 c.requires.2 c.args.tree.now.tree c.args.queue.now c.back.tree.tree c.back.at c.back.place back in
    let is = slice_get-get_or c.args.queue.now c.back.at.from (record { cell = 0; from = 0; steps = 0 }) w.0 in
    let m = back_more c.requires.0 c.requires.1 c.requires.2 c.args.tree.now.tree c.args.queue.now c.back.tree.tree c.push.new.self.tree c.back.at _ c.back.place c.in_ok-place.place back is c.back-test.true c.in_ok-place.ensures.pushed in
    m.1

pub back-preserved : goal.back-preserved
back-preserved c = (
  λ g held side leading.
      let back = c.back.invariant.0 g held side leading in
      let w = back_within g held side c.args.tree.now.tree c.args.queue.now c.back.tree.tree c.back.at c.back.place back in
      let is = slice_get-get_or c.args.queue.now c.back.at.from (record { cell = 0; from = 0; steps = 0 }) w.0 in
      let m = back_more g held side c.args.tree.now.tree c.args.queue.now c.back.tree.tree c.push.new.self.tree c.back.at _ c.back.place c.in_ok-place.place back is c.back-test.true c.in_ok-place.ensures.pushed in
      m.0,
  omega (arith, c.back.invariant.1, c.in_ok-place.ensures.size),
)

pub returns-clause-followed : goal.returns-clause-followed
returns-clause-followed c g held side leading =
    let some = leading_met g held side c.args.tree.now c.args.queue.now c.args.met c.in-Some.start c.in-Some.is leading in
    let zero-steps : c.back.at.steps ≤ 0 = c.back-test.false in
    back_done g held side c.args.tree.now.tree c.args.queue.now c.back.tree.tree c.back.at c.back.place (c.back.invariant.0 g held side leading) (omega (arith, zero-steps))
    (leading_free g held side c.args.tree.now c.args.queue.now c.in-Some.start some)

pub returns-clause-size : goal.returns-clause-size
returns-clause-size c = c.back.invariant.1
