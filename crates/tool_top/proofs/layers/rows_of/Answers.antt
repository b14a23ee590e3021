use Rattle.std.proofs.Common.{◌≡◌, ◌-◌, get_or, length, arith, ◌∙◌, ap, ◌++◌, ◌∷◌, []}
use Rattle.std.proofs.lemmas.List.{length-set, get_or_default}
use Rattle.tool_top.proofs.Layering.{row_more, whole_rows}
use Rattle.tool_top.proofs.layers.rows_of.Goals as goal

pub loop-product-preserved : goal.loop-product-preserved
loop-product-preserved c =
    let k = get_or c.args.layer.now c.loop-product.product 0 - 1 in
    let number = c.requires.numbers c.loop-product.product 0 (omega arith) in
    let grown = row_more c.args.layer.now c.args.count c.loop-product.product k c.loop-product.rows.items c.push-in-loop-product.new.self c.loop-product.invariant.size c.loop-product.invariant.rows (omega (arith, number)) (omega (arith, number)) (c.in_ok-push-2.ensures.ok ∙ ap (λ r. r ++ c.loop-product.product ∷ []) (c.index_mut-row.ensures.value ∙ get_or_default c.loop-product.rows.items k c.index_mut-row.result.now [] (omega (arith, number, c.loop-product.invariant.size)))) in
    record {
      size = length-set c.loop-product.rows.items k c.push-in-loop-product.new.self ∙ c.loop-product.invariant.size;
      rows = grown;
    }

pub returns : goal.returns
returns c =
    let all : c.loop-product.product ≡ length c.args.layer.now = omega arith in
    whole_rows c.args.layer.now c.args.count c.loop-product.rows.items c.loop-product.invariant.size
    (rw all at c.loop-product.invariant.rows)
