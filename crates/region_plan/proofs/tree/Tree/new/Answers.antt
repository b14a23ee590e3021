use Rattle.std.proofs.Common.{◌≡◌, replicate, None, rules, refl, arith}
use Rattle.region_plan.proofs.Places.{placing_one}
use Rattle.region_plan.proofs.tree.Tree.new.Goals as goal

pub invariant_of-result : goal.invariant_of-result
invariant_of-result c =
    let e : c.in_ok-places.places.items ≡ replicate c.args.size None = search rules in
    placing_one c.push.new.self.items c.in_ok-places.places.items c.args.size c.args.first (rw (c.in_ok-push.ensures.items, c.new-tree.ensures.items) refl)
    e c.requires (omega (arith, c.ranges.size.fits))
