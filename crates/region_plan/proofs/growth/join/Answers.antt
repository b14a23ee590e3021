use Rattle.std.proofs.Common.{List, subst, sym}
use Rattle.patch_layout.specs.declared.walk.Reached.{Reached}
use Rattle.region_plan.specs.inside.Follow.{Leading}
use Rattle.region_plan.proofs.Grafting.{leading_sought, leading_walk}
use Rattle.region_plan.proofs.growth.join.Goals as goal

pub follow-requires : goal.follow-requires
follow-requires c = (
  c.args.layout.now,
  c.args.held.now,
  c.args.side,
  leading_walk c.args.layout.now c.args.held.now c.args.walks.now c.side-pair.result c.args.side c.args.tree.now c.in-Some.walk.now c.meet-met.result c.side-pair.ensures.value c.requires.free c.requires.size c.requires.suits
      c.in-Some.ensures c.meet-met.ensures,
)

pub returns-in-Some-clause-grafted : goal.returns-in-Some-clause-grafted
returns-in-Some-clause-grafted c =
    let f = c.in_ok-place.ensures.followed c.args.layout.now c.args.held.now c.args.side
    (leading_walk c.args.layout.now c.args.held.now c.args.walks.now c.side-pair.result c.args.side c.args.tree.now c.in-Some.walk.now c.meet-met.result c.side-pair.ensures.value c.requires.free c.requires.size c.requires.suits
    c.in-Some.ensures c.meet-met.ensures) in
    f.0

pub returns-in-Some-clause-rooted : goal.returns-in-Some-clause-rooted
returns-in-Some-clause-rooted c =
    let f = c.in_ok-place.ensures.followed c.args.layout.now c.args.held.now c.args.side
    (leading_walk c.args.layout.now c.args.held.now c.args.walks.now c.side-pair.result c.args.side c.args.tree.now c.in-Some.walk.now c.meet-met.result c.side-pair.ensures.value c.requires.free c.requires.size c.requires.suits
    c.in-Some.ensures c.meet-met.ensures) in
    f.1

pub follow-requires-2 : goal.follow-requires-2
follow-requires-2 c =
    let P : List Reached → Type 0 = λ q. Leading c.args.layout.now c.args.held.now c.args.side c.args.tree.now q c.in_ok-met.met in (
      c.args.layout.now,
      c.args.held.now,
      c.args.side,
      subst P (sym c.as_slice.ensures.value) (leading_sought c.args.layout.now c.args.held.now c.side-pair.result c.args.side c.args.tree.now c.seek.new.queue.items c.seek.new.seen c.in_ok-met.met c.side-pair.ensures.value
          c.requires.free c.requires.size c.in_ok-met.ensures.sought),
    )

pub returns-clause-grafted : goal.returns-clause-grafted
returns-clause-grafted c =
    let P : List Reached → Type 0 = λ q. Leading c.args.layout.now c.args.held.now c.args.side c.args.tree.now q c.in_ok-met.met in
    let f = c.in_ok-place-2.ensures.followed c.args.layout.now c.args.held.now c.args.side
    (subst P (sym c.as_slice.ensures.value) (leading_sought c.args.layout.now c.args.held.now c.side-pair.result c.args.side c.args.tree.now c.seek.new.queue.items c.seek.new.seen c.in_ok-met.met c.side-pair.ensures.value
    c.requires.free c.requires.size c.in_ok-met.ensures.sought)) in
    f.0

pub returns-clause-rooted : goal.returns-clause-rooted
returns-clause-rooted c =
    let P : List Reached → Type 0 = λ q. Leading c.args.layout.now c.args.held.now c.args.side c.args.tree.now q c.in_ok-met.met in
    let f = c.in_ok-place-2.ensures.followed c.args.layout.now c.args.held.now c.args.side
    (subst P (sym c.as_slice.ensures.value) (leading_sought c.args.layout.now c.args.held.now c.side-pair.result c.args.side c.args.tree.now c.seek.new.queue.items c.seek.new.seen c.in_ok-met.met c.side-pair.ensures.value
    c.requires.free c.requires.size c.in_ok-met.ensures.sought)) in
    f.1
