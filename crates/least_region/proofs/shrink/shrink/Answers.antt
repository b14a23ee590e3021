use Rattle.std.proofs.Common.{◌≤◌, length, arith}
use Rattle.std.proofs.lemmas.Result.{IfOk-weaker}
use Rattle.region_plan.specs.Answer.{IsRegion}
use Rattle.least_region.specs.inside.Pick.{PlannedAt}
use Rattle.least_region.specs.Least.{IsLeast}
use Rattle.least_region.proofs.Shrinking.{setting_of, shrunk_not, shrunk, there_cell, there_size, has_rows, rows_few, sides_few}
use Rattle.least_region.proofs.shrink.shrink.Goals as goal

pub search-pick-requires-clause-rows : goal.search-pick-requires-clause-rows
search-pick-requires-clause-rows c = has_rows c.args.layout.now c.deref.result.now c.limit_of-limit.result c.deref-2.result.now c.in_ok-rows.rows.items c.deref-3.result.now c.in_ok-rows.ensures.table c.deref-3.ensures.value

pub returns-then-pick-limit : goal.returns-then-pick-limit
returns-then-pick-limit c =
    let w = setting_of c.args.layout.now c.args.look.now c.deref.result.now c.in_ok-free.free.items c.as_slice.result.now c.limit_of-limit.result c.deref-2.result.now c.goal_of-goal.new.sides.items c.goal_of-goal.result c.in_ok-rows.rows.items c.deref-3.result.now c.search-pick.result
    c.size.ensures.sound c.in_ok-rows.ensures.table c.in_ok-rows.ensures.count c.deref.ensures.value c.as_slice.ensures c.in_ok-free.ensures.marks c.deref-2.ensures.value c.goal_of-goal.ensures.split c.deref-3.ensures.value c.search-pick.ensures in
    let both = shrunk_not c.args.layout.now c.args.look.now c.deref.result.now c.limit_of-limit.result c.deref-2.result.now c.goal_of-goal.result c.in_ok-rows.rows.items c.search-pick.result c.args.planned w c.requires.region c.limit_of-limit.ensures.value c.if-pick-limit.true in
    record { region = both.0; least = both.1 }

pub plan_of-requires-clause-cell : goal.plan_of-requires-clause-cell
plan_of-requires-clause-cell c =
    let w = setting_of c.args.layout.now c.args.look.now c.deref.result.now c.in_ok-free.free.items c.as_slice.result.now c.limit_of-limit.result c.deref-2.result.now c.goal_of-goal.new.sides.items c.goal_of-goal.result c.in_ok-rows.rows.items c.deref-3.result.now c.search-pick.result
    c.size.ensures.sound c.in_ok-rows.ensures.table c.in_ok-rows.ensures.count c.deref.ensures.value c.as_slice.ensures c.in_ok-free.ensures.marks c.deref-2.ensures.value c.goal_of-goal.ensures.split c.deref-3.ensures.value c.search-pick.ensures in
    there_cell c.args.layout.now c.args.look.now c.deref.result.now c.limit_of-limit.result c.deref-2.result.now c.goal_of-goal.result c.in_ok-rows.rows.items c.search-pick.result w c.if-pick-limit.false

pub plan_of-requires-clause-rows : goal.plan_of-requires-clause-rows
plan_of-requires-clause-rows c = has_rows c.args.layout.now c.deref.result.now c.limit_of-limit.result c.deref-2.result.now c.in_ok-rows.rows.items c.deref-4.result.now c.in_ok-rows.ensures.table c.deref-4.ensures.value

pub plan_of-requires-clause-few : goal.plan_of-requires-clause-few
plan_of-requires-clause-few c =
    let le = sides_few c.args.look.now c.goal_of-goal.new.sides.items c.goal_of-goal.ensures.fewer c.requires.width in
    let le' : length c.deref-2.result.now ≤ 5 = rw c.deref-2.ensures.value le in
    rw c.deref-4.ensures.value (rows_few (length c.deref-2.result.now) (length c.in_ok-rows.rows.items) c.in_ok-rows.ensures.count le').1

pub plan_of-requires-clause-size : goal.plan_of-requires-clause-size
plan_of-requires-clause-size c =
    let w = setting_of c.args.layout.now c.args.look.now c.deref.result.now c.in_ok-free.free.items c.as_slice.result.now c.limit_of-limit.result c.deref-2.result.now c.goal_of-goal.new.sides.items c.goal_of-goal.result c.in_ok-rows.rows.items c.deref-3.result.now c.search-pick.result
    c.size.ensures.sound c.in_ok-rows.ensures.table c.in_ok-rows.ensures.count c.deref.ensures.value c.as_slice.ensures c.in_ok-free.ensures.marks c.deref-2.ensures.value c.goal_of-goal.ensures.split c.deref-3.ensures.value c.search-pick.ensures in
    there_size c.args.layout.now c.args.look.now c.deref.result.now c.limit_of-limit.result c.deref-2.result.now c.goal_of-goal.result c.in_ok-rows.rows.items c.deref-4.result.now c.search-pick.result w c.if-pick-limit.false (omega (arith, c.limit_of-limit.ensures.few)) c.deref-4.ensures.value

pub returns : goal.returns
returns c =
    let w = setting_of c.args.layout.now c.args.look.now c.deref.result.now c.in_ok-free.free.items c.as_slice.result.now c.limit_of-limit.result c.deref-2.result.now c.goal_of-goal.new.sides.items c.goal_of-goal.result c.in_ok-rows.rows.items c.deref-3.result.now c.search-pick.result
    c.size.ensures.sound c.in_ok-rows.ensures.table c.in_ok-rows.ensures.count c.deref.ensures.value c.as_slice.ensures c.in_ok-free.ensures.marks c.deref-2.ensures.value c.goal_of-goal.ensures.split c.deref-3.ensures.value c.search-pick.ensures in
    let both = IfOk-weaker c.plan_of.result (PlannedAt c.args.layout.now c.args.look.now c.deref-4.result.now c.search-pick.result) (λ p. IsRegion c.args.layout.now c.args.look.now p × IsLeast c.args.layout.now c.args.look.now p.port p.cells)
    (λ p planned. shrunk c.args.layout.now c.args.look.now c.deref.result.now c.limit_of-limit.result c.deref-2.result.now c.goal_of-goal.result c.in_ok-rows.rows.items c.deref-4.result.now c.search-pick.result p w c.if-pick-limit.false c.deref-4.ensures.value planned)
    c.plan_of.ensures in
    record {
      region = IfOk-weaker c.plan_of.result (λ p. IsRegion c.args.layout.now c.args.look.now p × IsLeast c.args.layout.now c.args.look.now p.port p.cells) (IsRegion c.args.layout.now c.args.look.now) (λ p x. x.0) both;
      least = IfOk-weaker c.plan_of.result (λ p. IsRegion c.args.layout.now c.args.look.now p × IsLeast c.args.layout.now c.args.look.now p.port p.cells) (λ p. IsLeast c.args.layout.now c.args.look.now p.port p.cells) (λ p x. x.1) both;
    }
