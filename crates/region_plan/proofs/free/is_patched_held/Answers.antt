use Rattle.std.proofs.Common.{◌≡◌, ℕ, Some, slice_get, subst, refl, sym, arith}
use Rattle.std.proofs.lemmas.Bool.{false≢true}
use Rattle.region_plan.proofs.free.is_patched_held.Goals as goal

pub returns-in-Some : goal.returns-in-Some
returns-in-Some c = (
  λ t. let (by, is) = c.is_held.ensures.0 t in (c.in-Some.cell, by, (c.in-Some.ensures c.in-Some.cell).0 refl, is),
  λ (x, by, patch, is).
      let e : Some c.in-Some.cell ≡ Some x = (c.in-Some.ensures x).1 patch in
      let same : c.in-Some.cell ≡ x = grind arith in
      c.is_held.ensures.1 (by, let Q : ℕ → Type 0 = λ y. slice_get c.args.held.now y ≡ Some (Some by) in subst Q (sym same) is),
)

pub returns-in-None : goal.returns-in-None
returns-in-None c = (
  λ t. absurd (false≢true t),
  λ (x, by, patch, is). let e = (c.in-None.ensures x).1 patch in absurd (cc),
)
