use Rattle.pauli_product.proofs.Laws.{carry_cut, carry_length, carry_letters, carry_commuting, carry_idle, carries_exchange}
use Rattle.pauli_product.proofs.law.law_carry.Goals as goal

pub returns-clause-cut : goal.returns-clause-cut
returns-clause-cut c = carry_cut

pub returns-clause-length : goal.returns-clause-length
returns-clause-length c = carry_length

pub returns-clause-letters : goal.returns-clause-letters
returns-clause-letters c = carry_letters

pub returns-clause-commuting : goal.returns-clause-commuting
returns-clause-commuting c = carry_commuting

pub returns-clause-idle : goal.returns-clause-idle
returns-clause-idle c = carry_idle

pub returns-clause-exchange : goal.returns-clause-exchange
returns-clause-exchange c = carries_exchange
