use Rattle.std.proofs.Common.{◌≡◌, ◌==◌, false, ap, sym, ◌∙◌}
use Rattle.pauli_product.specs.Signed.{Signed, commute}
use Rattle.pauli_product.specs.Pulls.{quarter}
use Rattle.pauli_product.proofs.Algebra.{conj_commuting, quarter_from_right, commute_swap}
use Rattle.pauli_product.proofs.Product.conj_quarter.Goals as goal

pub returns-then-not-commutes-clause-value : goal.returns-then-not-commutes-clause-value
returns-then-not-commutes-clause-value c =
    let clash : commute c.args.q.now c.args.self.now ≡ false = commute_swap c.args.q.now c.args.self.now ∙ sym c.commutes.ensures ∙ c.if-not-commutes.true in
    let letters = ap (λ (p : Signed). p.letters) (c.self.view_is ∙ c.times-power.ensures.product) in
    (λ i. record { sign = c.times-power.ensures.power i == 3; letters = letters i })
    ∙ sym (quarter_from_right c.args.q.now c.args.self.now c.requires clash)

pub returns-else-not-commutes-clause-value : goal.returns-else-not-commutes-clause-value
returns-else-not-commutes-clause-value c =
    sym (conj_commuting c.args.q.now quarter c.args.self.now (commute_swap c.args.q.now c.args.self.now ∙ sym c.commutes.ensures ∙ c.if-not-commutes.false))
