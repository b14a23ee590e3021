use Rattle.std.proofs.Common.{ℕ, ◌<◌, arith}
use Rattle.patch_layout.specs.Grid.{IsPort, OnPort}
use Rattle.patch_layout.proofs.Opening.{to_more, least_shut}
use Rattle.patch_layout.proofs.openness.shut_port.Goals as goal

pub returns-then-port_shut : goal.returns-then-port_shut
returns-then-port_shut c = least_shut c.args.layout.now c.loop-factory.factory c.loop-factory.invariant (c.port_shut.ensures.shut c.if-port_shut.true)

pub loop-factory-preserved : goal.loop-factory-preserved
loop-factory-preserved c =
    to_more (λ f. (x : ℕ) → IsPort c.args.layout.now f x → (d : ℕ) × OnPort c.args.layout.now f d) c.loop-factory.factory c.loop-factory.invariant (c.port_shut.ensures.open c.if-port_shut.false)

pub returns : goal.returns
returns c = λ x f p. let w : f < c.factories-factory-end.result = c.factories-factory-end.ensures f x p in c.loop-factory.invariant f (omega arith) x p
