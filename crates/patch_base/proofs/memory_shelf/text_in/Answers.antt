use Rattle.std.proofs.Common.{sym, ◌∙◌, ap, Some}
use Rattle.patch_base.proofs.Shelves.{text_at, text_past}
use Rattle.patch_base.proofs.memory_shelf.text_in.Goals as goal

pub returns-in_err-place : goal.returns-in_err-place
returns-in_err-place c = rw (c.from_residual.ensures, text_past c.args.books.now c.args.name.now (sym c.in_err-place.ensures))

pub returns : goal.returns
returns c =
    ap Some c.deref.ensures.value
    ∙ sym (text_at c.args.books.now c.args.name.now c.in_ok-place.place c.index-books-place.result (sym c.in_ok-place.ensures))
