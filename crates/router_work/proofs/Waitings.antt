-- A call that is made again while the turn is held.
use Rattle.std.proofs.Common.{◌≡◌, ℕ, ◌+◌, ◌-◌, ◌≤◌, refl, ap, sym, ◌∙◌, arith}
use Rattle.grid_lock.specs.declared.view.View.{View}
use Rattle.grid_lock.specs.Views.{met}
use Rattle.router_work.specs.Waits.{Waited}

pub waited_none : (v : View) → Waited v v
waited_none v = record { is = refl; met = omega arith }

-- the turn was found held once more
pub waited_more : (p v w : View) → Waited p v → w ≡ met v → Waited p w
waited_more p v w x e =
    let m : w.met ≡ v.met + 1 = ap (λ (u : View). u.met) e in
    record {
      is = e ∙ (ap (λ (n : ℕ). record v { met = n }) (sym m) ∙ ap (λ (u : View). record u { met = w.met }) x.is);
      met = (let b = x.met in omega arith);
    }

-- before it was found held the last time, the pass had waited too
pub waited_last : (p w : View) → Waited p w → p.met + 1 ≤ w.met → (v : View) × Waited p v × (w ≡ met v)
waited_last p w x more =
    let v : View = record w { met = w.met - 1 } in
    let last : w.met ≡ (w.met - 1) + 1 = omega arith in
    (v, record { is = ap (λ (u : View). record u { met = w.met - 1 }) x.is; met = omega arith }, ap (λ (n : ℕ). record w { met = n }) last)
