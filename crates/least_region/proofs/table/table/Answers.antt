use Rattle.std.proofs.Common.{◌≡◌, ◌++◌, ◌∷◌, [], ℕ, List, length, sym, subst, ◌∙◌, refl, ap}
use Rattle.least_region.specs.inside.Table.{Table}
use Rattle.least_region.proofs.Rows.{table_start}
use Rattle.least_region.proofs.table.table.Goals as goal

pub loop-place-init : goal.loop-place-init
loop-place-init c =
    let P : List (List ℕ) → Type 0 = λ r. (length r ≡ 1) × Table c.args.layout.now c.args.free.now c.args.limit c.args.sides.now r in
    let e : c.push.new.self.items ≡ [] ++ c.in_ok-first.first ∷ [] = c.in_ok-push.ensures.items ∙ ap (λ (xs : List (List ℕ)). xs ++ c.in_ok-first.first ∷ []) c.new-rows.ensures.items in
    subst P (sym e) (refl, table_start c.args.layout.now c.args.free.now c.args.limit c.args.sides.now c.in_ok-first.first c.requires.free c.in_ok-first.ensures)
