use Rattle.pauli_product.proofs.Laws.{pull_cut, pull_length, pull_letters, turn_last, pull_carries, pull_turns, pull_corrected}
use Rattle.pauli_product.proofs.law.law_pull.Goals as goal

pub returns-clause-cut : goal.returns-clause-cut
returns-clause-cut c = pull_cut

pub returns-clause-length : goal.returns-clause-length
returns-clause-length c = pull_length

pub returns-clause-letters : goal.returns-clause-letters
returns-clause-letters c = pull_letters

pub returns-clause-last : goal.returns-clause-last
returns-clause-last c = turn_last

pub returns-clause-carries : goal.returns-clause-carries
returns-clause-carries c = pull_carries

pub returns-clause-turns : goal.returns-clause-turns
returns-clause-turns c = pull_turns

pub returns-clause-corrected : goal.returns-clause-corrected
returns-clause-corrected c = pull_corrected
