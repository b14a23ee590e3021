use Rattle.std.proofs.Common.{◌≡◌, ◌<◌, ℕ, [], length, get_or}
use Rattle.patch_layout.specs.Grid.{Grid}
use Rattle.slice_write.specs.declared.page.Page.{Page}
use Rattle.slice_write.specs.inside.Pages.{PageIs}
use Rattle.slice_write.proofs.text.blank_pages.Given as goal

abbrev pub invariant-pages : goal.invariant-pages
invariant-pages l = record {
  count : length l.pages.items ≡ l.counter;
  each : (g : Grid) (n : ℕ) (d : Page) → n < l.counter → PageIs g [] (get_or l.pages.items n d);
}
