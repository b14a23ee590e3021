use Rattle.std.proofs.Common.{arith}
use Rattle.std.proofs.lemmas.Option.{slice_get_within}
use Rattle.board_core.proofs.Beginning.{names_next}
use Rattle.board_core.proofs.bits.bit_count.Goals as goal

pub loop-product-preserved : goal.loop-product-preserved
loop-product-preserved c = names_next c.args.products.now c.loop-product.product-index c.loop-product.count c.bits_end.result c.max-count.result c.product-item.result c.loop-product-test.true c.product-item.is c.loop-product.invariant c.bits_end.ensures c.max-count.ensures

pub returns : goal.returns
returns c p s e = c.loop-product.invariant p s (let l = slice_get_within c.args.products.now p s e in omega arith) e
