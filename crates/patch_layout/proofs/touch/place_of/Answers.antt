use Rattle.std.proofs.Common.{◌≡◌, ℕ, Contains, Result, arith, subst}
use Rattle.std.specs.List.Sorted.{IsBinarySearchResult}
use Rattle.std.specs.Ordering.{nat_cmp}
use Rattle.patch_layout.proofs.Finding.{placed_nowhere}
use Rattle.patch_layout.proofs.touch.place_of.Goals as goal

pub returns-in-Err : goal.returns-in-Err
returns-in-Err c = λ d is here.
    let x = c.in-Some.cell in
    let cells = c.args.cells.now in
    let same : d ≡ x = grind (arith, is, c.in-Some.is) in
    let P : Result ℕ ℕ → Type 0 = λ r. IsBinarySearchResult (λ y. nat_cmp y x) cells r in
    let Q : ℕ → Type 0 = λ y. Contains cells y in
    placed_nowhere cells x c.in-Err.field-0 c.requires.ascending (subst P c.in-Err.is c.binary_search.ensures.position) (subst Q same here)
