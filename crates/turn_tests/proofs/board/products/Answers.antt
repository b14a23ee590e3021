use Rattle.std.proofs.Common.{ap, arith, length, length-append}
use Rattle.std.proofs.lemmas.List.Elements.{All-same, All-push}
use Rattle.source_model.specs.declared.Static.{Static}
use Rattle.turn_tests.specs.Rows.{IsServed}
use Rattle.turn_tests.proofs.board.products.Goals as goal

pub loop-at-preserved : goal.loop-at-preserved
loop-at-preserved c = record {
  each = All-same (IsServed c.args.rotations) c.push.new.self.items _ c.in_ok-push.ensures.items (All-push (IsServed c.args.rotations) c.loop-at.list.items c.in_ok-product.field-0 c.loop-at.invariant.each c.in_ok-product.ensures);
  count = omega (arith, ap length c.in_ok-push.ensures.items, length-append {A = Static}, c.loop-at.invariant.count);
}
