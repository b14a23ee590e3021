use Rattle.std.proofs.Common.{◌≡◌, ◌∙◌, ◌++◌, [], List, ℕ, ap, sym, subst, append-nil}
use Rattle.patch_base.specs.Passes.{Passes}
use Rattle.std.specs.Prelude.{All}
use Rattle.slice_write.specs.declared.marks.Mark.{Mark}
use Rattle.slice_write.specs.inside.Marks.{mark_at, IsNarrow}
use Rattle.slice_write.specs.Pictures.{slice_line, picture}
use Rattle.slice_write.specs.inside.Pages.{stepping_by, page_text}
use Rattle.slice_write.proofs.Words.{page_parts, page_bare}
use Rattle.patch_base.proofs.Passing.{passes_put, passes_then, began_more, began_rest, on_err}
use Rattle.slice_write.proofs.text.put_page.Goals as goal

pub returns-in_err-make_room-clause-prefix : goal.returns-in_err-make_room-clause-prefix
returns-in_err-make_room-clause-prefix g c = on_err _ c.from_residual.result (began_more _ _ c.args.pen.now (page_text c.args.layout.now c.args.number c.args.page.now) c.in_err-make_room.ensures.prefix)

pub returns-in_err-put_all-clause-prefix : goal.returns-in_err-put_all-clause-prefix
returns-in_err-put_all-clause-prefix g c =
    let (shown, draws) = c.requires.drawn in
    let line = slice_line c.args.number (stepping_by c.args.page.now.steps) in
    let head = passes_put c.put_line.new.pen line c.in_ok-make_room.ensures.ok c.put_line.ensures in
    let layout = c.args.layout.now in
    let N : List Mark → Type 0 = λ l. All (IsNarrow layout) l in
    let drawn = c.show.ensures layout shown draws (subst N (sym c.deref.ensures.value) c.requires.narrow) in
    let bytes : c.deref-then-page.result.now ≡ picture layout (mark_at c.args.page.now.marks.items) = c.deref-then-page.ensures.value ∙ drawn.bytes ∙ ap (λ l. picture layout (mark_at l)) c.deref.ensures.value in
    let text = page_parts layout c.args.number c.args.page.now c.deref-then-page.result.now c.if-page.true bytes in
    on_err _ c.from_residual-in_err-put_all.result (began_rest _ c.deref-then-page.result.now [] (page_text layout c.args.number c.args.page.now) head (text ∙ sym (append-nil (line ++ c.deref-then-page.result.now))) c.in_err-put_all.ensures.prefix)

pub returns-in_ok-put_all-clause-ok : goal.returns-in_ok-put_all-clause-ok
returns-in_ok-put_all-clause-ok g c =
    let (shown, draws) = c.requires.drawn in
    let line = slice_line c.args.number (stepping_by c.args.page.now.steps) in
    let head = passes_put c.put_line.new.pen line c.in_ok-make_room.ensures.ok c.put_line.ensures in
    let layout = c.args.layout.now in
    let N : List Mark → Type 0 = λ l. All (IsNarrow layout) l in
    let drawn = c.show.ensures layout shown draws (subst N (sym c.deref.ensures.value) c.requires.narrow) in
    let bytes : c.deref-then-page.result.now ≡ picture layout (mark_at c.args.page.now.marks.items) = c.deref-then-page.ensures.value ∙ drawn.bytes ∙ ap (λ l. picture layout (mark_at l)) c.deref.ensures.value in
    let text = page_parts layout c.args.number c.args.page.now c.deref-then-page.result.now c.if-page.true bytes in
    let P : List ℕ → Type 0 = λ t. Passes (g.O.Sink.taken c.args.out.now) (g.O.Sink.taken c.put_all.new.out) c.args.pen.now c.put_all.new.self t in
    subst P (sym text) (passes_then head c.in_ok-put_all.ensures.ok)

pub returns-else-page-clause-ok : goal.returns-else-page-clause-ok
returns-else-page-clause-ok g c =
    let line = slice_line c.args.number (stepping_by c.args.page.now.steps) in
    let P : List ℕ → Type 0 = λ t. Passes (g.O.Sink.taken c.args.out.now) (g.O.Sink.taken c.make_room.new.out) c.args.pen.now c.put_line.new.pen t in
    subst P (sym (page_bare c.args.layout.now c.args.number c.args.page.now c.if-page.false)) (passes_put c.put_line.new.pen line c.in_ok-make_room.ensures.ok c.put_line.ensures)
