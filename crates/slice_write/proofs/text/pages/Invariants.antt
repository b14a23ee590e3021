use Rattle.std.proofs.Common.{◌≡◌, ◌++◌, List, length, take}
use Rattle.board_core.specs.declared.Noted.{Noted}
use Rattle.board_core.specs.History.{entries}
use Rattle.slice_write.specs.inside.Marks.{paired}
use Rattle.slice_write.specs.inside.Pages.{PagesAre}
use Rattle.slice_write.proofs.text.pages.Given as goal

abbrev pub invariant-loop-noted : goal.invariant-loop-noted
invariant-loop-noted l =
    (seen : List Noted) × (seen ++ l.noted-iterator ≡ l.history) × (l.place ≡ length seen) × PagesAre l.layout (paired (entries seen) (take l.place l.slices)) l.last l.pages.items
