use Rattle.std.proofs.Common.{List, Some, None, sym, subst, arith}
use Rattle.patch_layout.specs.declared.layout.Site.{Site}
use Rattle.patch_layout.specs.Grid.{Grid, Sound}
use Rattle.patch_layout.specs.Kept.{grid_of}
use Rattle.patch_layout.specs.LayoutText.{Laid}
use Rattle.patch_layout.proofs.Trees.{written_back}
use Rattle.patch_layout.proofs.Laying.{doubled_all, sized_is, laid_sound, laid_all}
use Rattle.patch_layout.proofs.reader.lay_out.Goals as goal

pub returns-in-Some-lay-clause-refused : goal.returns-in-Some-lay-clause-refused
returns-in-Some-lay-clause-refused c = (
  sized_is c.args.rows c.args.columns c.in-Some.cells c.args.lines.now c.in-Some.ensures.some (c.are_within.ensures.0 c.if-not-are_within.false),
  doubled_all c.args.lines.now (Some c.in-Some-lay.cell) c.in-Some-lay.ensures.least,
)

pub of-requires : goal.of-requires
of-requires c =
    let P : List Site → Type 0 = λ xs. Sound (grid_of c.args.rows c.args.columns xs) in
    let some = c.in-Some.ensures.some in
    subst P (sym (written_back c.lay.new.sites c.in_ok-sites.sites.items c.in_ok-sites.sites.len (omega arith)))
    (laid_sound c.args.rows c.args.columns c.args.lines.now c.lay.new.sites None c.requires (omega (arith, some.0, c.in_ok-sites.ensures.len)) (omega (arith, some.0, some.1)) (omega (arith, some.0, some.2)) c.in_default-lay.ensures)

pub returns-clause-sound : goal.returns-clause-sound
returns-clause-sound c =
    let P : List Site → Type 0 = λ xs. Sound (grid_of c.args.rows c.args.columns xs) in
    let some = c.in-Some.ensures.some in
    subst Sound (sym c.in_ok-layout.ensures)
    (subst P (sym (written_back c.lay.new.sites c.in_ok-sites.sites.items c.in_ok-sites.sites.len (omega arith)))
    (laid_sound c.args.rows c.args.columns c.args.lines.now c.lay.new.sites None c.requires (omega (arith, some.0, c.in_ok-sites.ensures.len)) (omega (arith, some.0, some.1)) (omega (arith, some.0, some.2)) c.in_default-lay.ensures))

pub returns-clause-once : goal.returns-clause-once
returns-clause-once c = doubled_all c.args.lines.now None c.in_default-lay.ensures.least

pub returns-clause-laid : goal.returns-clause-laid
returns-clause-laid c =
    let within = c.are_within.ensures.0 c.if-not-are_within.false in
    let some = c.in-Some.ensures.some in
    let P : List Site → Type 0 = λ xs. Laid c.args.rows c.args.columns c.args.lines.now (grid_of c.args.rows c.args.columns xs) in
    let Q : Grid → Type 0 = λ g. Laid c.args.rows c.args.columns c.args.lines.now g in
    subst Q (sym c.in_ok-layout.ensures)
    (subst P (sym (written_back c.lay.new.sites c.in_ok-sites.sites.items c.in_ok-sites.sites.len (omega arith)))
    (laid_all c.args.rows c.args.columns c.args.lines.now c.lay.new.sites (omega (arith, some.0, c.in_ok-sites.ensures.len)) (λ l in'. let w = within l in' in omega (arith, some.0)) c.in_default-lay.ensures))
