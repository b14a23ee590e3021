use Rattle.std.proofs.Common.{◌≡◌, ℕ, List, Option, None, length, ap, sym, subst, arith}
use Rattle.patch_layout.specs.declared.layout.Side.{Side}
use Rattle.patch_layout.specs.Region.{wanted_sides}
use Rattle.region_plan.specs.Free.{Free}
use Rattle.region_plan.specs.inside.Ways.{Served}
use Rattle.region_plan.specs.inside.Kept.{Suits}
use Rattle.region_plan.proofs.Answering.{some_sides, through_some, through_none, served_region}
use Rattle.region_plan.proofs.ways.for_measurement.Goals as goal

pub index-requires : goal.index-requires
index-requires c =
    let w = some_sides c.args.look.now.axis None c.requires.letter.0 c.requires.letter.1 in
    let len : length c.in_ok-sides.sides.items ≡ length (wanted_sides c.args.look.now.axis None) = ap (λ (x : List Side). length x) c.in_ok-sides.ensures in
    omega (arith, w, len, c.in_ok-sides.sides.ok.0)

pub finish-requires : goal.finish-requires
finish-requires c =
    let H : List (Option ℕ) → Type 0 = λ h. Served c.args.layout.now (Free c.args.layout.now h) c.index.result.now c.deref-2.result.now c.in_ok-region.field-0 in
    let D : List Side → Type 0 = λ d. Served c.args.layout.now (Free c.args.layout.now c.args.look.now.held) c.index.result.now d c.in_ok-region.field-0 in
    served_region c.args.layout.now c.args.look.now None c.index.result.now c.in_ok-sides.sides.items c.in_ok-region.field-0 c.in-Some.region c.in_ok-sides.ensures c.in-Some.is
    (subst D c.deref-2.ensures.value (subst H c.as_slice-2.ensures c.in_ok-region.ensures))

pub returns-in-Some : goal.returns-in-Some
returns-in-Some c =
    let H : List (Option ℕ) → Type 0 = λ h. Served c.args.layout.now (Free c.args.layout.now h) c.index.result.now c.deref-2.result.now c.in_ok-region.field-0 in
    let D : List Side → Type 0 = λ d. Served c.args.layout.now (Free c.args.layout.now c.args.look.now.held) c.index.result.now d c.in_ok-region.field-0 in
    let w = some_sides c.args.look.now.axis None c.requires.letter.0 c.requires.letter.1 in
    let len : length c.in_ok-sides.sides.items ≡ length (wanted_sides c.args.look.now.axis None) = ap (λ (x : List Side). length x) c.in_ok-sides.ensures in
    through_some c.args.layout.now c.args.look.now None c.index.result.now c.in_ok-sides.sides.items c.in_ok-region.field-0 c.in-Some.region c.in_ok-plan-in-Some.plan c.in_ok-sides.ensures c.index.ensures
    (omega (arith, w, len)) c.in-Some.is (subst D c.deref-2.ensures.value (subst H c.as_slice-2.ensures c.in_ok-region.ensures)) c.in_ok-plan-in-Some.ensures

pub returns : goal.returns
returns c =
    let H : List (Option ℕ) → Type 0 = λ h. Served c.args.layout.now (Free c.args.layout.now h) c.index.result.now c.deref-2.result.now c.in_ok-region.field-0 in
    let D : List Side → Type 0 = λ d. Served c.args.layout.now (Free c.args.layout.now c.args.look.now.held) c.index.result.now d c.in_ok-region.field-0 in
    let w = some_sides c.args.look.now.axis None c.requires.letter.0 c.requires.letter.1 in
    let len : length c.in_ok-sides.sides.items ≡ length (wanted_sides c.args.look.now.axis None) = ap (λ (x : List Side). length x) c.in_ok-sides.ensures in
    through_none c.args.layout.now c.args.look.now None c.index.result.now c.in_ok-sides.sides.items c.in_ok-region.field-0 c.in_ok-sides.ensures c.index.ensures
    (omega (arith, w, len)) c.in-None.is (subst D c.deref-2.ensures.value (subst H c.as_slice-2.ensures c.in_ok-region.ensures))

pub prepare-requires : goal.prepare-requires
prepare-requires c = let P : List (Option ℕ) → Type 0 = λ h. length h ≡ length c.args.layout.now.sites in record { held = subst P (sym c.as_slice.ensures) c.requires.held }

pub region_on-requires : goal.region_on-requires
region_on-requires c =
    let P : List (Option ℕ) → Type 0 = λ h. Suits c.args.layout.now h c.prepare.new.self in
    subst P (sym c.as_slice-2.ensures) (subst P c.as_slice.ensures c.in_ok-prepare.ensures)
