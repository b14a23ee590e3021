use Rattle.std.proofs.Common.{ap, arith, length, length-append}
use Rattle.std.proofs.lemmas.List.Elements.{All-same, All-push}
use Rattle.source_model.specs.declared.Static.{Static}
use Rattle.router_tests.specs.inside.Jobs.{Suits}
use Rattle.router_tests.proofs.board.products.Goals as goal

pub loop-at-preserved : goal.loop-at-preserved
loop-at-preserved c =
    let P = Suits c.args.job.now.qubits c.args.job.now.rotations in
    record {
      each = All-same P c.push.new.self.items _ c.in_ok-push.ensures.items (All-push P c.loop-at.list.items c.in_ok-product.field-0 c.loop-at.invariant.each c.in_ok-product.ensures);
      count = omega (arith, ap length c.in_ok-push.ensures.items, length-append {A = Static}, c.loop-at.invariant.count);
    }
