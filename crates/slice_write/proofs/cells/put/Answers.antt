use Rattle.std.proofs.Common.{[], ◌∷◌, ap, ◌∙◌, sym, ◌||◌, ◌==◌}
use Rattle.slice_write.specs.Slices.{is_among, is_port}
use Rattle.slice_write.proofs.Among.{among_append, or_false}
use Rattle.slice_write.proofs.cells.put.Goals as goal

pub returns-in_ok-push : goal.returns-in_ok-push
returns-in_ok-push c = λ x.
    ap (λ l. is_among l x) c.in_ok-push.ensures.items
    ∙ among_append c.args.into.now.items (c.in-Some.cell ∷ []) x
    ∙ ap (λ b. is_among c.args.into.now.items x || b) (or_false (c.in-Some.cell == x) ∙ ap (λ o. is_port o x) (sym c.in-Some.is))
