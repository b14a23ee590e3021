use Rattle.pauli_product.proofs.Laws.{conj_idle, conj_moves, conj_length, conj_letters, conj_carries, conjs_exchange}
use Rattle.pauli_product.proofs.law.law_conjugation.Goals as goal

pub returns-clause-idle : goal.returns-clause-idle
returns-clause-idle c = conj_idle

pub returns-clause-moves : goal.returns-clause-moves
returns-clause-moves c = conj_moves

pub returns-clause-length : goal.returns-clause-length
returns-clause-length c = conj_length

pub returns-clause-letters : goal.returns-clause-letters
returns-clause-letters c = conj_letters

pub returns-clause-carries : goal.returns-clause-carries
returns-clause-carries c = conj_carries

pub returns-clause-exchange : goal.returns-clause-exchange
returns-clause-exchange c = conjs_exchange
