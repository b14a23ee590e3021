use Rattle.std.proofs.Common.{◌∷◌, [], ◌++◌, refl, append_assoc}
use Rattle.std.specs.Prelude.{codes}
use Rattle.schedule_text.specs.Text.{digits, bit_in}
use Rattle.schedule_text.specs.inside.Pens.{register_text}
use Rattle.schedule_text.proofs.Pieces.{register_parts}
use Rattle.patch_base.proofs.Passing.{passes_put, passes_then, passes_room, began_rest, began_here, on_err}
use Rattle.schedule_text.proofs.write.put_register.Goals as goal

pub returns-in_err-put_name-clause-prefix : goal.returns-in_err-put_name-clause-prefix
returns-in_err-put_name-clause-prefix g c =
    let r = c.args.register.now in
    let head = passes_put c.put.new.self (codes "bits ") c.in_ok-make_room.ensures.ok c.put.ensures in
    let bit = bit_in c.args.bits.now in
    on_err _ c.from_residual-in_err-put_name.result (began_rest _ r.name (32 ∷ (digits bit r.first r.size ++ 10 ∷ [])) (register_text bit r) head (register_parts bit r) c.in_err-put_name.ensures.prefix)

pub returns-in_err-make_room-2-clause-prefix : goal.returns-in_err-make_room-2-clause-prefix
returns-in_err-make_room-2-clause-prefix g c =
    let r = c.args.register.now in
    let bit = bit_in c.args.bits.now in
    let head = passes_put c.put.new.self (codes "bits ") c.in_ok-make_room.ensures.ok c.put.ensures in
    let named = passes_put c.put_byte.new.self (32 ∷ []) (passes_then head c.in_ok-put_name.ensures.ok) c.put_byte.ensures in
    let whole = append_assoc ((codes "bits " ++ r.name) ++ codes " ") (digits bit r.first r.size) (10 ∷ []) in
    on_err _ c.from_residual-in_err-make_room-2.result (began_here _ (digits bit r.first r.size ++ 10 ∷ []) (register_text bit r) named whole c.in_err-make_room-2.ensures.prefix)

pub returns-in_err-put_digits-clause-prefix : goal.returns-in_err-put_digits-clause-prefix
returns-in_err-put_digits-clause-prefix g c =
    let r = c.args.register.now in
    let bit = bit_in c.args.bits.now in
    let head = passes_put c.put.new.self (codes "bits ") c.in_ok-make_room.ensures.ok c.put.ensures in
    let named = passes_put c.put_byte.new.self (32 ∷ []) (passes_then head c.in_ok-put_name.ensures.ok) c.put_byte.ensures in
    on_err _ c.from_residual-in_err-put_digits.result (began_rest _ (digits bit r.first r.size) (10 ∷ []) (register_text bit r) (passes_room named c.in_ok-make_room-2.ensures.ok) refl c.in_err-put_digits.ensures.prefix)

pub returns-clause-ok : goal.returns-clause-ok
returns-clause-ok g c =
    let head = passes_put c.put.new.self (codes "bits ") c.in_ok-make_room.ensures.ok c.put.ensures in
    let named = passes_put c.put_byte.new.self (32 ∷ []) (passes_then head c.in_ok-put_name.ensures.ok) c.put_byte.ensures in
    passes_put c.put_byte-2.new.self (10 ∷ []) (passes_then (passes_room named c.in_ok-make_room-2.ensures.ok) c.in_ok-put_digits.ensures.ok) c.put_byte-2.ensures
