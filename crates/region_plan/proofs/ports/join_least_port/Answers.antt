use Rattle.std.proofs.Common.{List, refl, sym, subst, arith, All}
use Rattle.patch_layout.specs.declared.walk.Reached.{Reached}
use Rattle.region_plan.specs.Free.{Free}
use Rattle.region_plan.specs.inside.Tree.{cells_in}
use Rattle.region_plan.proofs.Porting.{trying_more}
use Rattle.region_plan.proofs.ports.join_least_port.Goals as goal

pub loop-factory-init : goal.loop-factory-init
loop-factory-init c = record { tree = refl; touched = refl; tables = c.requires.tables; none = λ f lt. absurd (omega arith) }

pub join_port-requires-clause-tables : goal.join_port-requires-clause-tables
join_port-requires-clause-tables c = c.loop-factory.invariant.tables

pub join_port-requires-clause-free : goal.join_port-requires-clause-free
join_port-requires-clause-free c =
    let P : List Reached → Type 0 = λ x. All (Free c.args.layout.now c.args.look.now.held) (cells_in x) in
    subst P (sym c.loop-factory.invariant.tree) c.requires.free

pub loop-factory-preserved : goal.loop-factory-preserved
loop-factory-preserved c =
    trying_more c.args.layout.now c.args.look.now c.args.region.now c.loop-factory.region c.join_port.new.region c.loop-factory.factory c.in_ok-join_port.field-0 c.loop-factory.invariant c.if-branch.false c.in_ok-join_port.ensures

pub returns : goal.returns
returns c f lt offered = c.loop-factory.invariant.none f (omega (arith, c.loop-factory-test.false, lt)) offered
