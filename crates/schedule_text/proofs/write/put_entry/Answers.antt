use Rattle.std.proofs.Common.{◌∷◌, [], List, ℕ, sym, subst}
use Rattle.std.specs.Prelude.{decimal, flat_map}
use Rattle.patch_base.specs.Passes.{Passes}
use Rattle.schedule_text.specs.inside.Pens.{spread, head_words, cells_in, cell_word, entry_text}
use Rattle.schedule_text.proofs.Pieces.{entry_parts}
use Rattle.patch_base.proofs.Passing.{passes_put, passes_then, began_rest, on_err}
use Rattle.schedule_text.proofs.write.put_entry.Goals as goal

pub returns-in_err-put_cells_of-clause-prefix : goal.returns-in_err-put_cells_of-clause-prefix
returns-in_err-put_cells_of-clause-prefix g c =
    let head = passes_put c.put_words.new.pen (spread (head_words c.args.noted.now.entry)) (passes_put c.put_decimal.new.self (decimal c.args.noted.now.by) c.in_ok-make_room.ensures.ok c.put_decimal.ensures.text) c.put_words.ensures.text in
    on_err _ c.from_residual-in_err-put_cells_of.result (began_rest _ (flat_map cell_word (cells_in c.args.noted.now.entry)) (10 ∷ []) (entry_text c.args.noted.now) head (entry_parts c.args.noted.now) c.in_err-put_cells_of.ensures.prefix)

pub returns-clause-ok : goal.returns-clause-ok
returns-clause-ok g c =
    let head = passes_put c.put_words.new.pen (spread (head_words c.args.noted.now.entry)) (passes_put c.put_decimal.new.self (decimal c.args.noted.now.by) c.in_ok-make_room.ensures.ok c.put_decimal.ensures.text) c.put_words.ensures.text in
    let P : List ℕ → Type 0 = λ t. Passes (g.O.Sink.taken c.args.out.now) (g.O.Sink.taken c.put_cells_of.new.out) c.args.pen.now c.put_byte.new.self t in
    subst P (sym (entry_parts c.args.noted.now)) (passes_put c.put_byte.new.self (10 ∷ []) (passes_then head c.in_ok-put_cells_of.ensures.ok) c.put_byte.ensures)
