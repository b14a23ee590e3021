use Rattle.side_by_side.proofs.Laws.{circuit_law, products_law, kinds_law, letters_law}
use Rattle.side_by_side.proofs.law.law_joined.Goals as goal

pub returns-clause-circuit : goal.returns-clause-circuit
returns-clause-circuit c = circuit_law

pub returns-clause-products : goal.returns-clause-products
returns-clause-products c = products_law

pub returns-clause-kinds : goal.returns-clause-kinds
returns-clause-kinds c = kinds_law

pub returns-clause-letters : goal.returns-clause-letters
returns-clause-letters c = letters_law
