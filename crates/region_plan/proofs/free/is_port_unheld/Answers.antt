use Rattle.std.proofs.Common.{◌≡◌, ℕ, Some, subst, refl, sym, arith}
use Rattle.std.proofs.lemmas.Bool.{false≢true}
use Rattle.region_plan.specs.Free.{IsUnheld}
use Rattle.region_plan.proofs.free.is_port_unheld.Goals as goal

pub returns-in-Some : goal.returns-in-Some
returns-in-Some c = (
  λ t. (c.in-Some.cell, (c.in-Some.ensures c.in-Some.cell).0 refl, c.is_unheld.ensures.0 t),
  λ (x, port, is).
      let e : Some c.in-Some.cell ≡ Some x = (c.in-Some.ensures x).1 port in
      let same : c.in-Some.cell ≡ x = grind arith in
      c.is_unheld.ensures.1 (let Q : ℕ → Type 0 = λ y. IsUnheld c.args.held.now y in subst Q (sym same) is),
)

pub returns-in-None : goal.returns-in-None
returns-in-None c = (
  λ t. absurd (false≢true t),
  λ (x, port, is). let e = (c.in-None.ensures x).1 port in absurd (cc),
)
