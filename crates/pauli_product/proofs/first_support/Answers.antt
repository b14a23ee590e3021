use Rattle.std.proofs.Common.{◌+◌, ◌*◌, ◌<◌, ◌≤◌, sym, ◌∙◌, arith}
use Rattle.pauli_product.specs.declared.Letter.TheVariants.{I}
use Rattle.pauli_product.proofs.Masks.{get_or-all_letters, support_step, support_none}
use Rattle.pauli_product.proofs.first_support.Goals as goal

pub returns-in-Some-clause-found : goal.returns-in-Some-clause-found
returns-in-Some-clause-found c = λ e. c.in-Some.ensures.found (sym (get_or-all_letters _ _ _ _ I c.loop-i-test.true c.in-Some.ensures.within) ∙ e)

pub returns-in-Some-clause-first : goal.returns-in-Some-clause-first
returns-in-Some-clause-first c =
    let within : c.in-Some.q ≤ 64 = omega (arith, c.in-Some.ensures.within) in
    support_step _ _ _ _ _ _ c.loop-i-test.true within c.saturating_sub.ensures c.loop-i.invariant c.in-Some.ensures.first

pub loop-i-preserved : goal.loop-i-preserved
loop-i-preserved c = λ k low high.
    let all : 64 ≤ 64 = omega arith in
    let end : k < 64 * c.loop-i.i + 64 = omega arith in
    support_step _ _ _ _ _ _ c.loop-i-test.true all c.saturating_sub.ensures c.loop-i.invariant c.in_default.ensures.none k low end

pub returns-clause-none : goal.returns-clause-none
returns-clause-none c = support_none _ _ _ c.loop-i-test.false c.loop-i.invariant
