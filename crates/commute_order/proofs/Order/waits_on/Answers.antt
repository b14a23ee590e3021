use Rattle.std.proofs.Common.{◌≡◌, ◌<◌, [], length, get_or, subst, ap, sym, ◌∙◌, arith}
use Rattle.std.proofs.lemmas.List.{get_or_read}
use Rattle.commute_order.specs.Commuting.{IsOrder}
use Rattle.commute_order.proofs.Waits.{least_wait}
use Rattle.commute_order.proofs.Order.waits_on.Goals as goal

pub returns : goal.returns
returns c = λ ps us order.
    let rows = c.self.inside.rows.items in
    let same : rows ≡ c.args.self.now = c.self.view_is in
    let mine = subst (IsOrder ps us) (sym same) order in
    let within : c.args.p < length rows = omega (arith, ap length same) in
    let row : c.index.result.now ≡ get_or rows c.args.p [] = get_or_read rows c.args.p c.index.result.now within c.index.ensures [] in
    let done : c.done.inside.bits ≡ c.args.done.now = c.done.view_is in
    let told = rw (row, done) at c.first_open.ensures in
    least_wait ps us rows c.args.done.now c.args.p mine within (c.requires.done ∙ ap length (sym same)) c.first_open.result told
