use Rattle.std.proofs.Common.{◌≡◌, ℕ, List, Option, None, length, ap, sym, subst, arith}
use Rattle.patch_layout.specs.declared.layout.Side.{Side}
use Rattle.patch_layout.specs.Region.{wanted_sides}
use Rattle.region_plan.specs.inside.Kept.{Suits}
use Rattle.region_plan.proofs.Answering.{some_sides, best_some, found_way, found_no_way}
use Rattle.region_plan.proofs.ways.for_rotation.Goals as goal

pub index-requires : goal.index-requires
index-requires c =
    let w = some_sides c.args.look.now.axis None c.requires.letter.0 c.requires.letter.1 in
    let len : length c.in_ok-sides.sides.items ≡ length (wanted_sides c.args.look.now.axis None) = ap (λ (x : List Side). length x) c.in_ok-sides.ensures in
    omega (arith, w, len, c.in_ok-sides.sides.ok.0)

pub best_way-requires-clause-sides : goal.best_way-requires-clause-sides
best_way-requires-clause-sides c =
    let P : List Side → Type 0 = λ xs. xs ≡ wanted_sides c.args.look.now.axis None in
    subst P (sym c.deref-2.ensures.value) c.in_ok-sides.ensures

pub finish-requires : goal.finish-requires
finish-requires c =
    let (offered, none, (first, on, sprung, least)) = best_some c.args.layout.now c.args.look.now c.index.result.now c.in_ok-way.field-0 c.in-Some.way c.in-Some.is c.in_ok-way.ensures in
    (first, sprung)

pub returns-in-Some : goal.returns-in-Some
returns-in-Some c =
    let w = some_sides c.args.look.now.axis None c.requires.letter.0 c.requires.letter.1 in
    let len : length c.in_ok-sides.sides.items ≡ length (wanted_sides c.args.look.now.axis None) = ap (λ (x : List Side). length x) c.in_ok-sides.ensures in
    found_way c.args.layout.now c.args.look.now c.index.result.now c.in_ok-sides.sides.items c.in-Some.way c.in_ok-plan-in-Some.plan c.requires.rotation c.in_ok-sides.ensures c.index.ensures (omega (arith, w, len))
    (best_some c.args.layout.now c.args.look.now c.index.result.now c.in_ok-way.field-0 c.in-Some.way c.in-Some.is c.in_ok-way.ensures) c.in_ok-plan-in-Some.ensures

pub returns : goal.returns
returns c =
    let w = some_sides c.args.look.now.axis None c.requires.letter.0 c.requires.letter.1 in
    let len : length c.in_ok-sides.sides.items ≡ length (wanted_sides c.args.look.now.axis None) = ap (λ (x : List Side). length x) c.in_ok-sides.ensures in
    found_no_way c.args.layout.now c.args.look.now c.index.result.now c.in_ok-sides.sides.items c.in_ok-way.field-0 c.requires.rotation c.in_ok-sides.ensures c.index.ensures (omega (arith, w, len)) c.in-None.is c.in_ok-way.ensures

pub prepare-requires : goal.prepare-requires
prepare-requires c = let P : List (Option ℕ) → Type 0 = λ h. length h ≡ length c.args.layout.now.sites in record { held = subst P (sym c.as_slice.ensures) c.requires.held }

pub best_way-requires-clause-suits : goal.best_way-requires-clause-suits
best_way-requires-clause-suits c = let P : List (Option ℕ) → Type 0 = λ h. Suits c.args.layout.now h c.prepare.new.self in subst P c.as_slice.ensures c.in_ok-prepare.ensures
