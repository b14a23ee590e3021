use Rattle.trace_laws.proofs.Laws.{source_axis_pulled, bits_agree, numbers_agree}
use Rattle.trace_laws.proofs.law_bits.Goals as goal

pub returns-clause-axis : goal.returns-clause-axis
returns-clause-axis c = source_axis_pulled

pub returns-clause-bits : goal.returns-clause-bits
returns-clause-bits c = bits_agree

pub returns-clause-numbers : goal.returns-clause-numbers
returns-clause-numbers c = numbers_agree
