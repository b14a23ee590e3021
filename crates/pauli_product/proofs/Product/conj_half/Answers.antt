use Rattle.std.proofs.Common.{◌≡◌, false, ap, sym, ◌∙◌}
use Rattle.pauli_product.specs.Signed.{commute}
use Rattle.pauli_product.specs.Pulls.{half, negated}
use Rattle.pauli_product.proofs.Algebra.{conj_commuting, conj_moved, commute_swap}
use Rattle.pauli_product.proofs.Product.conj_half.Goals as goal

pub returns-then-not-commutes-clause-value : goal.returns-then-not-commutes-clause-value
returns-then-not-commutes-clause-value c =
    let clash : commute c.args.q.now c.args.self.now ≡ false = commute_swap c.args.q.now c.args.self.now ∙ sym c.commutes.ensures ∙ c.if-not-commutes.true in
    ap negated c.self.view_is ∙ sym (conj_moved c.args.q.now half c.args.self.now clash)

pub returns-else-not-commutes-clause-value : goal.returns-else-not-commutes-clause-value
returns-else-not-commutes-clause-value c =
    sym (conj_commuting c.args.q.now half c.args.self.now (commute_swap c.args.q.now c.args.self.now ∙ sym c.commutes.ensures ∙ c.if-not-commutes.false))
