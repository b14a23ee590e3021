use Rattle.std.proofs.Common.{◌+◌, ◌*◌, ◌<◌, ◌≤◌, arith}
use Rattle.pauli_product.proofs.Masks.{identity_words}
use Rattle.pauli_product.proofs.words_of_i.Goals as goal

pub returns-clause-holds : goal.returns-clause-holds
returns-clause-holds c =
    let enough : c.args.qubits ≤ 64 * c.div_ceil-count.result = omega (arith, c.div_ceil-count.ensures) in
    let tight : 64 * c.div_ceil-count.result < c.args.qubits + 64 = omega (arith, c.div_ceil-count.ensures) in
    (identity_words _ _ _ _ c.requires enough tight c.identity.ensures (c.in_ok-from_elem.ensures.items_if_clones_equal (λ _ e. e))).holds

pub returns-clause-letters : goal.returns-clause-letters
returns-clause-letters c =
    let enough : c.args.qubits ≤ 64 * c.div_ceil-count.result = omega (arith, c.div_ceil-count.ensures) in
    let tight : 64 * c.div_ceil-count.result < c.args.qubits + 64 = omega (arith, c.div_ceil-count.ensures) in
    (identity_words _ _ _ _ c.requires enough tight c.identity.ensures (c.in_ok-from_elem.ensures.items_if_clones_equal (λ _ e. e))).letters
