use Rattle.std.proofs.Common.{arith}
use Rattle.patch_layout.proofs.LookUps.{port_within}
use Rattle.patch_layout.proofs.layout.Layout.factories.Goals as goal

pub overflow_cast-result : goal.overflow_cast-result
overflow_cast-result c = omega (arith, c.self.invariant.factories, c.len.ensures, c.self.inside.ports.ok.0)

pub returns : goal.returns
returns c = port_within c.args.self.now _ _ c.self.inside.patches.items c.self.inside.ports.items c.len.result c.self.view_is c.self.invariant (omega (arith, c.len.ensures, c.self.inside.ports.ok.0))
