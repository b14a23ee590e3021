use Rattle.pauli_product.proofs.Laws.{clashes_odd, clashes_even, commuting_mutual, commuting_kept}
use Rattle.pauli_product.proofs.law.law_commuting.Goals as goal

pub returns-clause-mutual : goal.returns-clause-mutual
returns-clause-mutual c = commuting_mutual

pub returns-clause-kept : goal.returns-clause-kept
returns-clause-kept c = commuting_kept

pub returns-clause-even : goal.returns-clause-even
returns-clause-even c = clashes_even

pub returns-clause-odd : goal.returns-clause-odd
returns-clause-odd c = clashes_odd
