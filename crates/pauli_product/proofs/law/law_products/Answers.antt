use Rattle.pauli_product.proofs.Laws.{carry_real, carry_i_times, carry_negated, real_of_three}
use Rattle.pauli_product.proofs.law.law_products.Goals as goal

pub returns-clause-real : goal.returns-clause-real
returns-clause-real c = carry_real

pub returns-clause-i_times : goal.returns-clause-i_times
returns-clause-i_times c = carry_i_times

pub returns-clause-negated : goal.returns-clause-negated
returns-clause-negated c = carry_negated

pub returns-clause-three : goal.returns-clause-three
returns-clause-three c = real_of_three
