use Rattle.std.proofs.Common.{sym}
use Rattle.patch_base.proofs.Shelves.{raised_at, raised_past}
use Rattle.patch_base.proofs.memory_shelf.raise.Goals as goal

pub returns-in-Some : goal.returns-in-Some
returns-in-Some c = raised_at c.args.books.now c.args.name.now c.in-Some.place _ c.index-books-place.result (sym c.in-Some.ensures) c.one_more-book.ensures

pub returns-in_default : goal.returns-in_default
returns-in_default c = raised_past c.args.books.now c.args.name.now (sym c.in_default.ensures)
