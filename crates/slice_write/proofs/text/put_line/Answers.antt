use Rattle.std.proofs.Common.{◌∙◌, ◌++◌, ◌∷◌, [], ap}
use Rattle.std.specs.Prelude.{codes, decimal, flat_map}
use Rattle.slice_write.specs.inside.Pages.{stepping_by}
use Rattle.slice_write.proofs.Words.{line_parts, word}
use Rattle.slice_write.proofs.text.put_line.Goals as goal

pub returns : goal.returns
returns c =
    let f = flat_map word (stepping_by c.args.steps.now) in
    c.put_byte.ensures ∙ ap (λ l. l ++ 10 ∷ []) (c.put_steps.ensures.text ∙ ap (λ l. l ++ f) (c.put_decimal.ensures.text ∙ ap (λ l. l ++ decimal c.args.number) c.put.ensures))
    ∙ line_parts c.args.pen.now (codes "slice ") (decimal c.args.number) f (10 ∷ [])
