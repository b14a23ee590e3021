use Rattle.patch_layout.proofs.Opening.{PortsOpenTo}
use Rattle.patch_layout.proofs.openness.shut_port.Given as goal

abbrev pub invariant-loop-factory : goal.invariant-loop-factory
invariant-loop-factory l = PortsOpenTo l.layout l.factory
