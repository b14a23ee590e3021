use Rattle.std.proofs.Common.{arith}
use Rattle.pauli_product.specs.inside.Words.{word_letters}
use Rattle.pauli_product.proofs.WordLetters.{clash_fits, few_powers, ones_power, product_letters}
use Rattle.pauli_product.proofs.word.Word.times.Goals as goal

pub returns-clause-letters : goal.returns-clause-letters
unfolding word_letters
returns-clause-letters c = product_letters 64 c.args.self.now.x c.args.self.now.z c.args.other.x c.args.other.z

pub returns-clause-power : goal.returns-clause-power
unfolding word_letters
returns-clause-power c =
    let a = c.args.self.now in
    let b = c.args.other in
    ones_power 64 a.x a.z b.x b.z (clash_fits 64 a.x a.z b.x b.z (omega arith) (omega arith) (omega arith) (omega arith))

pub returns-clause-few : goal.returns-clause-few
returns-clause-few c =
    let a = c.args.self.now in
    let b = c.args.other in
    few_powers 64 a.x a.z b.x b.z (omega arith) (omega arith) (omega arith) (omega arith)

pub overflow_mul-result : goal.overflow_mul-result
overflow_mul-result c =
    let a = c.args.self.now in
    let b = c.args.other in
    omega (arith, few_powers 64 a.x a.z b.x b.z (omega arith) (omega arith) (omega arith) (omega arith))

pub overflow_add-result : goal.overflow_add-result
overflow_add-result c =
    let a = c.args.self.now in
    let b = c.args.other in
    omega (arith, few_powers 64 a.x a.z b.x b.z (omega arith) (omega arith) (omega arith) (omega arith))
