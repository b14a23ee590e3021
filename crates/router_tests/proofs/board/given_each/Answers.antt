use Rattle.std.proofs.Common.{List, sym, subst}
use Rattle.std.proofs.lemmas.List.{take_all}
use Rattle.source_model.specs.declared.Static.{Static}
use Rattle.source_model.specs.declared.Given.{Given}
use Rattle.source_model.specs.Circuits.{OutcomesOf}
use Rattle.source_model.specs.Statics.{kinds_of}
use Rattle.router_tests.proofs.Outcomes.{outcomes_more}
use Rattle.router_tests.proofs.board.given_each.Goals as goal

pub loop-product-preserved : goal.loop-product-preserved
loop-product-preserved c =
    outcomes_more c.args.products.now c.loop-product.product-index c.product-item.result c.loop-product.given.items c.push.new.self.items c.given_for.result c.loop-product-test.true c.product-item.is c.given_for.ensures c.in_ok-push.ensures.items c.loop-product.invariant

pub returns : goal.returns
returns c =
    subst (λ (l : List Given). OutcomesOf (kinds_of c.args.products.now) l) (sym c.of.ensures)
    (subst (λ (l : List Static). OutcomesOf (kinds_of l) c.loop-product.given.items) (take_all c.loop-product.product-index c.args.products.now c.loop-product-test.false) c.loop-product.invariant)
