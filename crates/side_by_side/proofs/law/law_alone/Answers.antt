use Rattle.side_by_side.proofs.Laws.{axes_alone_law, axis_alone_law, each_law, own_axes_law, bits_law, registers_law}
use Rattle.side_by_side.proofs.law.law_alone.Goals as goal

pub returns-clause-axes : goal.returns-clause-axes
returns-clause-axes c = axes_alone_law

pub returns-clause-axis : goal.returns-clause-axis
returns-clause-axis c = axis_alone_law

pub returns-clause-each : goal.returns-clause-each
returns-clause-each c = each_law

pub returns-clause-own_axes : goal.returns-clause-own_axes
returns-clause-own_axes c = own_axes_law

pub returns-clause-bits : goal.returns-clause-bits
returns-clause-bits c = bits_law

pub returns-clause-registers : goal.returns-clause-registers
returns-clause-registers c = registers_law
