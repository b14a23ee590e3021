use Rattle.std.proofs.Common.{ℕ, List, Option, refl, sym, subst}
use Rattle.region_plan.specs.Free.{Free}
use Rattle.region_plan.specs.inside.Ways.{At}
use Rattle.region_plan.specs.inside.Kept.{Suits}
use Rattle.region_plan.proofs.Porting.{at_some, sprung_free, way_unoffered, way_apart, way_none, way_some}
use Rattle.region_plan.proofs.ports.way_at.Goals as goal

pub returns-then-not-is_any_offered : goal.returns-then-not-is_any_offered
returns-then-not-is_any_offered c = way_unoffered c.args.layout.now c.args.look.now c.args.cell c.args.below (c.if-not-is_any_offered.ensures refl)

pub returns-in_default : goal.returns-in_default
returns-in_default c =
    let A : List (Option ℕ) → Type 0 = λ h. At c.args.layout.now (Free c.args.layout.now h) c.args.cell c.args.sides.now c.in_ok-region.field-0 in
    way_apart c.args.layout.now c.args.look.now c.args.cell c.args.below c.args.sides.now c.in_ok-region.field-0 c.requires.sides c.in_default.is (subst A c.as_slice.ensures c.in_ok-region.ensures)

pub join_least_port-requires-clause-tables : goal.join_least_port-requires-clause-tables
join_least_port-requires-clause-tables c =
    let A : List (Option ℕ) → Type 0 = λ h. At c.args.layout.now (Free c.args.layout.now h) c.args.cell c.args.sides.now c.in_ok-region.field-0 in
    let (first, cell-is, sprung, tables) = at_some c.args.layout.now c.args.look.now c.args.cell c.args.sides.now c.in_ok-region.field-0 c.in-Some.region c.in-Some.is (subst A c.as_slice.ensures c.in_ok-region.ensures) in
    tables

pub join_least_port-requires-clause-free : goal.join_least_port-requires-clause-free
join_least_port-requires-clause-free c =
    let A : List (Option ℕ) → Type 0 = λ h. At c.args.layout.now (Free c.args.layout.now h) c.args.cell c.args.sides.now c.in_ok-region.field-0 in
    let (first, cell-is, sprung, tables) = at_some c.args.layout.now c.args.look.now c.args.cell c.args.sides.now c.in_ok-region.field-0 c.in-Some.region c.in-Some.is (subst A c.as_slice.ensures c.in_ok-region.ensures) in
    sprung_free c.args.layout.now (Free c.args.layout.now c.args.look.now.held) c.args.sides.now first c.in-Some.region.tree.tree c.in-Some.region.touched.items (λ x free. free.0) sprung

pub returns-in-Some-2 : goal.returns-in-Some-2
returns-in-Some-2 c =
    let A : List (Option ℕ) → Type 0 = λ h. At c.args.layout.now (Free c.args.layout.now h) c.args.cell c.args.sides.now c.in_ok-region.field-0 in
    way_some c.args.layout.now c.args.look.now c.args.cell c.args.below c.args.sides.now c.in-Some.region c.join_least_port.new.region c.in_ok-factory.field-0 c.in-Some-2.factory
    (record { region = c.join_least_port.new.region; factory = c.in-Some-2.factory }) c.requires.sides
    (at_some c.args.layout.now c.args.look.now c.args.cell c.args.sides.now c.in_ok-region.field-0 c.in-Some.region c.in-Some.is (subst A c.as_slice.ensures c.in_ok-region.ensures)) c.in-Some-2.is c.in_ok-factory.ensures refl

pub returns-in-None : goal.returns-in-None
returns-in-None c =
    let A : List (Option ℕ) → Type 0 = λ h. At c.args.layout.now (Free c.args.layout.now h) c.args.cell c.args.sides.now c.in_ok-region.field-0 in
    way_none c.args.layout.now c.args.look.now c.args.cell c.args.below c.args.sides.now c.in-Some.region c.join_least_port.new.region c.in_ok-factory.field-0 c.requires.sides
    (at_some c.args.layout.now c.args.look.now c.args.cell c.args.sides.now c.in_ok-region.field-0 c.in-Some.region c.in-Some.is (subst A c.as_slice.ensures c.in_ok-region.ensures)) c.in-None.is c.in_ok-factory.ensures

pub region_at-requires : goal.region_at-requires
region_at-requires c = let P : List (Option ℕ) → Type 0 = λ h. Suits c.args.layout.now h c.args.walks.now in subst P (sym c.as_slice.ensures) c.requires.suits
