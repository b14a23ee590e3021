use Rattle.std.proofs.Common.{◌+◌, ◌∙◌, ap, length, get_or, subst, sym, arith, List, []}
use Rattle.std.proofs.lemmas.List.{length_push}
use Rattle.slice_write.specs.declared.page.Page.{Page}
use Rattle.slice_write.specs.inside.Pages.{PageIs}
use Rattle.slice_write.proofs.Paging.{page_push}
use Rattle.slice_write.proofs.text.blank_pages.Goals as goal

pub pages-preserved : goal.pages-preserved
pages-preserved c = record {
  count = ap length c.in_ok-push.ensures.items ∙ length_push c.pages.pages.items c.new.result ∙ ap (λ n. n + 1) c.pages.invariant.count;
  each = λ g n d low. (let P : List Page → Type 0 = λ l. PageIs g [] (get_or l n d) in
      subst P (sym c.in_ok-push.ensures.items) (page_push g c.pages.pages.items c.new.result c.pages.counter c.pages.invariant.count (c.pages.invariant.each g) (c.new.ensures g) n d low));
}

pub returns : goal.returns
returns c = λ g. record {
  count = omega (arith, c.pages.invariant.count, c.pages-test.false, c.pages.auto.counter-end, c.from-end.ensures);
  each = λ n d low. c.pages.invariant.each g n d (omega (arith, low, c.pages-test.false, c.from-end.ensures));
}
