use Rattle.std.proofs.Common.{◌∷◌, [], refl}
use Rattle.std.specs.Prelude.{codes, decimal}
use Rattle.slice_write.specs.inside.Pages.{pages_text}
use Rattle.patch_base.proofs.Passing.{passes_start, passes_put, passes_then, began_all, map_err}
use Rattle.slice_write.proofs.text.write_pages.Goals as goal

pub returns-clause-prefix : goal.returns-clause-prefix
returns-clause-prefix g c =
    let begun = passes_put c.put_byte.new.self (10 ∷ []) (passes_put c.put_decimal.new.self (decimal c.args.last) (passes_put c.put.new.self (codes "slices 1 ") (passes_start (g.O.Sink.taken c.args.out.now) c.new-pen.result) c.put.ensures) c.put_decimal.ensures.text) c.put_byte.ensures in
    map_err c.send.result (λ p. began_all _ (pages_text c.args.layout.now c.args.last c.args.pages.now) c.new-pen.ensures refl (passes_then begun c.in_ok-put_pages.ensures.ok) p) c.send.ensures.prefix
