use Rattle.std.proofs.Common.{◌≡◌, ◌<◌, length, get_or, arith, ◌∙◌, ap, refl}
use Rattle.std.specs.Prelude.{decimal}
use Rattle.std.proofs.lemmas.List.{get_or_read, with_items_is}
use Rattle.slice_write.specs.Pictures.{aligned}
use Rattle.slice_write.proofs.Drawn.{patch_fits, patched, anew_at, anew_long, decimal_wide}
use Rattle.slice_write.proofs.drawing.Drawing.put.Goals as goal

pub write_at-requires : goal.write_at-requires
write_at-requires c =
    let (g, shown, draws, narrow) = c.requires in
    let low : c.args.mark.cell < length c.args.self.now.starts.items = omega (arith, draws.size, narrow.inside) in
    let start = get_or_read c.args.self.now.starts.items c.args.mark.cell c.index-start.result.now low c.index-start.ensures 0 in
    omega (arith, start, patch_fits g shown c.args.mark c.args.self.now draws narrow, ap length c.deref_mut.ensures.value)

pub returns : goal.returns
returns c = λ g shown draws narrow.
    let low : c.args.mark.cell < length c.args.self.now.starts.items = omega (arith, draws.size, narrow.inside) in
    let start = get_or_read c.args.self.now.starts.items c.args.mark.cell c.index-start.result.now low c.index-start.ensures 0 in
    let place = get_or c.args.self.now.starts.items c.args.mark.cell 0 in
    let six = aligned (decimal c.args.mark.product) in
    let written : c.write_at.new.bytes ≡ anew_at c.args.self.now.bytes.items place six =
    c.write_at.ensures ∙ ap (λ s. anew_at c.deref_mut.result.now s c.six_columns-six.result) start ∙ ap (λ b. anew_at b place c.six_columns-six.result) c.deref_mut.ensures.value ∙ ap (anew_at c.args.self.now.bytes.items place) c.six_columns-six.ensures in
    let long : length c.write_at.new.bytes ≡ c.args.self.now.bytes.len =
    omega (arith, ap length written, anew_long c.args.self.now.bytes.items six place (patch_fits g shown c.args.mark c.args.self.now draws narrow) (decimal_wide c.args.mark g narrow), c.args.self.now.bytes.ok.0) in
    patched g shown c.args.mark c.args.self.now _ draws narrow (with_items_is c.args.self.now.bytes c.write_at.new.bytes long ∙ written) refl refl
