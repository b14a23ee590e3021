use Rattle.patch_base.proofs.Passing.{began_then, began_more, passes_on, begun_on, on_err, map_ok, map_err}
use Rattle.patch_base.proofs.pen.Pen.put_all.Goals as goal

pub returns-in_err-send-clause-prefix : goal.returns-in_err-send-clause-prefix
returns-in_err-send-clause-prefix g c = on_err _ c.from_residual-in_err-send.result (began_then _ c.args.bytes.now c.in_ok-make_room.ensures.ok (began_more _ _ _ c.args.bytes.now c.in_err-send.ensures.prefix))

pub returns-clause-ok : goal.returns-clause-ok
returns-clause-ok g c = map_ok c.write_all.result (λ w. passes_on _ _ _ _ _ _ _ _ c.in_ok-make_room.ensures.ok c.in_ok-send.ensures.ok c.in_ok-send.ensures.empty w) c.write_all.ensures.all

pub returns-clause-prefix : goal.returns-clause-prefix
returns-clause-prefix g c = map_err c.write_all.result (λ w. begun_on _ _ _ _ _ _ _ c.in_ok-make_room.ensures.ok c.in_ok-send.ensures.ok w) c.write_all.ensures.prefix
