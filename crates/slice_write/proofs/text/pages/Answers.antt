use Rattle.std.proofs.Common.{◌≡◌, ◌<◌, ◌≤◌, ◌∷◌, [], ◌++◌, List, length, get_or, refl, sym, ◌∙◌, ap, subst, arith, append_assoc, length-append}
use Rattle.std.proofs.lemmas.List.{get_or_read}
use Rattle.board_core.specs.declared.Noted.{Noted}
use Rattle.slice_write.specs.declared.page.Page.{Page}
use Rattle.slice_write.specs.inside.Pages.{PageIs}
use Rattle.slice_write.proofs.Paging.{pages_more, room_at}
use Rattle.slice_write.proofs.text.pages.Goals as goal

pub loop-noted-init : goal.loop-noted-init
loop-noted-init c = ([], c.into_iter-noted-iterator.ensures.into_iter_gives ∙ c.walk-noted-items.ensures.values, refl, c.in_ok-pages.ensures c.args.layout.now)

pub add-requires-clause-room : goal.add-requires-clause-room
add-requires-clause-room c =
    let (seen, all, at, are) = c.loop-noted.invariant in
    let whole : seen ++ c.in-Some.noted.now ∷ c.next.new.self ≡ c.args.history.now = ap (λ (l : List Noted). seen ++ l) (sym c.in-Some.ensures.steps) ∙ all in
    room_at c.args.layout.now c.args.history.now seen c.next.new.self c.in-Some.noted.now whole c.requires.room

pub loop-noted-preserved : goal.loop-noted-preserved
loop-noted-preserved c =
    let (seen, all, at, are) = c.loop-noted.invariant in
    let g = c.args.layout.now in
    let whole : seen ++ c.in-Some.noted.now ∷ c.next.new.self ≡ c.args.history.now = ap (λ (l : List Noted). seen ++ l) (sym c.in-Some.ensures.steps) ∙ all in
    let inside : c.loop-noted.place < length c.args.slices.now = omega (arith, ap length whole, length-append seen (c.in-Some.noted.now ∷ c.next.new.self), c.requires.same, at) in
    let slot = get_or c.args.slices.now c.loop-noted.place 0 in
    let few : slot ≤ c.args.last = c.requires.within c.loop-noted.place 0 inside in
    let slot_inside : slot < length c.loop-noted.pages.items = omega (arith, few, are.count) in
    let page = get_or_read c.loop-noted.pages.items slot c.index_mut-page.result.now slot_inside c.index_mut-page.ensures.value c.add.new.self in (
      seen ++ c.in-Some.noted.now ∷ [],
      append_assoc seen (c.in-Some.noted.now ∷ []) c.next.new.self ∙ whole,
      omega (arith, at, length-append seen (c.in-Some.noted.now ∷ [])),
      pages_more g seen c.in-Some.noted.now c.args.slices.now c.loop-noted.place c.args.last c.loop-noted.pages.items _ c.add.new.self at inside few are
          (λ here is. (let P : Page → Type 0 = λ y. PageIs g here y in c.in_ok-add.ensures here (subst P (sym page) is))) refl,
    )
