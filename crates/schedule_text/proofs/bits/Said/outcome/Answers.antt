use Rattle.std.proofs.Common.{◌≡◌, sym, ◌∙◌, ap, ap₂, get_or, false}
use Rattle.std.specs.Prelude.{Some, None, unwrap_or}
use Rattle.pauli_product.specs.Corrections.{xor}
use Rattle.schedule_text.proofs.Hearing.{turned_at, any_default, differ_is_xor}
use Rattle.schedule_text.proofs.bits.Said.outcome.Goals as goal

pub returns : goal.returns
returns c =
    let signs = c.args.self.now.signs.items in
    let raws = c.args.self.now.raws.items in
    let p = c.args.p in
    let raw : c.index.result.now ≡ get_or raws p None = c.index.ensures ∙ any_default raws p c.index.result.now None c.requires.raws in
    let sign : c.index-2.result.now ≡ get_or signs p None = c.index-2.ensures ∙ any_default signs p c.index-2.result.now None c.requires.signs in
    let turned : xor c.unwrap_or-raw.result c.unwrap_or-sign.result ≡ xor (unwrap_or (get_or raws p None) false) (unwrap_or (get_or signs p None) false) =
    ap₂ xor (c.unwrap_or-raw.ensures ∙ ap (λ o. unwrap_or o false) raw) (c.unwrap_or-sign.ensures ∙ ap (λ o. unwrap_or o false) sign) in
    turned_at signs raws p c.requires.signs c.requires.raws ∙ ap Some (sym (differ_is_xor c.unwrap_or-raw.result c.unwrap_or-sign.result ∙ turned))
