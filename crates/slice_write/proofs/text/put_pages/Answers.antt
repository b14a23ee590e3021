use Rattle.std.proofs.Common.{◌≡◌, ◌+◌, ◌-◌, ◌<◌, ◌++◌, List, ℕ, length, arith, sym, ◌∙◌, ap, subst}
use Rattle.patch_base.specs.Outside.{AppendsPrefix}
use Rattle.patch_base.specs.Passes.{Passes}
use Rattle.slice_write.specs.inside.Pages.{page_at, page_text}
use Rattle.slice_write.proofs.Words.{page_here}
use Rattle.patch_base.proofs.Passing.{on_err}
use Rattle.slice_write.proofs.Pieces.{passes_more, began_more_of}
use Rattle.slice_write.proofs.text.put_pages.Goals as goal

pub returns-in_err-put_page-clause-prefix : goal.returns-in_err-put_page-clause-prefix
returns-in_err-put_page-clause-prefix g c =
    let inside : c.loop-n.n + 1 < length c.args.pages.now = omega (arith, c.loop-n-test.true, c.requires.some) in
    let text : page_at c.args.layout.now c.args.pages.now c.loop-n.n ≡ page_text c.args.layout.now (c.loop-n.n + 1) c.index-pages-n.result = page_here c.args.layout.now c.args.pages.now c.loop-n.n c.index-pages-n.result inside ∙ ap (page_text c.args.layout.now (c.loop-n.n + 1)) (sym c.index-pages-n.is) in
    let P : List ℕ → Type 0 = λ t. AppendsPrefix (g.O.Sink.taken c.loop-n.out) (g.O.Sink.taken c.put_page.new.out) (c.loop-n.pen ++ t) in
    on_err _ c.from_residual.result (began_more_of (page_at c.args.layout.now c.args.pages.now) c.loop-n.n (length c.args.pages.now - 1) _ (omega (arith, c.loop-n-test.true)) c.loop-n.invariant.passes (subst P (sym text) c.in_err-put_page.ensures.prefix))

pub loop-n-preserved : goal.loop-n-preserved
loop-n-preserved g c =
    let inside : c.loop-n.n + 1 < length c.args.pages.now = omega (arith, c.loop-n-test.true, c.requires.some) in
    let text : page_at c.args.layout.now c.args.pages.now c.loop-n.n ≡ page_text c.args.layout.now (c.loop-n.n + 1) c.index-pages-n.result = page_here c.args.layout.now c.args.pages.now c.loop-n.n c.index-pages-n.result inside ∙ ap (page_text c.args.layout.now (c.loop-n.n + 1)) (sym c.index-pages-n.is) in
    let P : List ℕ → Type 0 = λ t. Passes (g.O.Sink.taken c.loop-n.out) (g.O.Sink.taken c.put_page.new.out) c.loop-n.pen c.put_page.new.pen t in
    record {
      counts = omega (arith, c.in_ok-put_page.ensures.counts, c.loop-n.invariant.counts);
      passes = passes_more (page_at c.args.layout.now c.args.pages.now) c.loop-n.n c.loop-n.invariant.passes (subst P (sym text) c.in_ok-put_page.ensures.ok);
      drawn = c.in_ok-put_page.ensures.drawn;
    }
