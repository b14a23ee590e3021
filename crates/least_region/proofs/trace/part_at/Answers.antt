use Rattle.std.proofs.Common.{◌≡◌, ℕ, ◌-◌, inl, inr, arith, subst, sym, ◌∙◌}
use Rattle.std.proofs.lemmas.Bool.{cases_lt, false≢true}
use Rattle.least_region.specs.inside.Trace.{PairFits}
use Rattle.least_region.proofs.trace.part_at.Goals as goal

pub loop-one-preserved : goal.loop-one-preserved
loop-one-preserved c a b lt some sum fits = elim (cases_lt a c.loop-one.one) [
  | inl lt' ↦ c.loop-one.invariant a b lt' some sum fits
  | inr ge ↦
      let same : a ≡ c.loop-one.one = omega arith in
      let rest : b ≡ c.args.subset - c.loop-one.one = omega arith in
      let P : ℕ → Type 0 = λ y. PairFits c.args.rows.now y b c.args.cell c.args.size in
      let Q : ℕ → Type 0 = λ y. PairFits c.args.rows.now c.loop-one.one y c.args.cell c.args.size in
      false≢true (sym c.if-pair_fits.false ∙ c.pair_fits.ensures.1 (subst Q rest (subst P same fits)))
]

pub returns : goal.returns
returns c (a, b, x, y, (sum, apart), some-a, some-b, ex, ey, le) = c.loop-one.invariant a b (omega arith) some-a sum (apart, (x, y, ex, ey, le))
