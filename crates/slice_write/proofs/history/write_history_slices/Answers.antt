use Rattle.std.proofs.Common.{◌∙◌, ap, subst, List, ℕ}
use Rattle.patch_base.specs.Outside.{Grew, AppendsPrefix}
use Rattle.board_core.specs.History.{entries}
use Rattle.slice_write.specs.inside.Pages.{pages_text}
use Rattle.slice_write.specs.inside.Tables.{job}
use Rattle.slice_write.proofs.Whole.{within_greatest, all_have_room, as_many, whole_text}
use Rattle.slice_write.proofs.history.write_history_slices.Goals as goal

pub pages-requires-clause-same : goal.pages-requires-clause-same
pages-requires-clause-same g c = as_many (job c.args.products.now c.args.layout.now c.args.fails.now) c.args.history.now c.args.slices.now c.requires.slices

pub pages-requires-clause-within : goal.pages-requires-clause-within
pages-requires-clause-within g c = within_greatest c.args.slices.now c.greatest-last.result c.greatest-last.ensures

pub pages-requires-clause-room : goal.pages-requires-clause-room
pages-requires-clause-room g c = all_have_room (job c.args.products.now c.args.layout.now c.args.fails.now) (entries c.args.history.now) c.requires.limits c.requires.factories c.requires.legal

pub pages-requires-clause-factories : goal.pages-requires-clause-factories
pages-requires-clause-factories g c = λ f store has. (c.requires.factories f store has).0

pub returns-clause-all : goal.returns-clause-all
returns-clause-all g c =
    let j = job c.args.products.now c.args.layout.now c.args.fails.now in
    let h = entries c.args.history.now in
    let text = ap (pages_text j.grid c.greatest-last.result) c.deref.ensures.value ∙ whole_text j h c.args.slices.now c.greatest-last.result c.in_ok-pages.pages.items c.requires.slices c.greatest-last.ensures c.in_ok-pages.ensures in
    let P : List ℕ → Type 0 = λ t. Grew (g.O.Sink.taken c.args.out.now) (g.O.Sink.taken c.write_pages.new.out) t in
    subst P text c.in_ok-write_pages.ensures.all

pub returns-in_err-write_pages-clause-prefix : goal.returns-in_err-write_pages-clause-prefix
returns-in_err-write_pages-clause-prefix g c = λ e.
    let j = job c.args.products.now c.args.layout.now c.args.fails.now in
    let h = entries c.args.history.now in
    let text = ap (pages_text j.grid c.greatest-last.result) c.deref.ensures.value ∙ whole_text j h c.args.slices.now c.greatest-last.result c.in_ok-pages.pages.items c.requires.slices c.greatest-last.ensures c.in_ok-pages.ensures in
    let P : List ℕ → Type 0 = λ t. AppendsPrefix (g.O.Sink.taken c.args.out.now) (g.O.Sink.taken c.write_pages.new.out) t in
    subst P text c.in_err-write_pages.ensures.prefix
