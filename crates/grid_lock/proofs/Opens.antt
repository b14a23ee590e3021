-- The table at the start, and the first pass.
use Rattle.std.proofs.Common.{inl, ◌≡◌, ℕ, zero, suc, ◌<◌, List, [], ◌∷◌, length, refl, sym, ap, ◌∙◌, subst, arith, append-nil}
use Rattle.std.specs.List.{All}
use mathlib.Core.Option.{some, some-injective, some-ne-none}
use lib.ListN.{get_elem?}
use Rattle.atomic_table.specs.Table.{opening}
use Rattle.board_core.specs.declared.Noted.{Noted}
use Rattle.board_core.specs.Position.{Position, IsLegal}
use Rattle.grid_lock.specs.declared.view.View.{View}
use Rattle.grid_lock.specs.Views.{entries_by, opener}
use Rattle.grid_lock.specs.Turn.{Lives, LivesOrEnded, KeepsRule}
use Rattle.grid_lock.specs.inside.Plays.{Sat}
use Rattle.grid_lock.specs.inside.Passes.{PassRests}
use Rattle.grid_lock.proofs.Lists.{only_zero}

-- the table at the start
opens : (p : Position) (n : ℕ) → n ≡ length p.history → IsLegal p → entries_by 0 p.history ≡ p.history → ((m : ℕ) → 0 < m → entries_by m p.history ≡ []) → KeepsRule p (opening (0 ∷ n ∷ []) (p ∷ []) (opener p))
opens p n long legal own later = record {
  turn = 0;
  log = p.history;
  made = 0;
  kept = [];
  home = some p;
  words = ap (λ (k : ℕ). 0 ∷ k ∷ []) long;
  slot = refl;
  legal = legal;
  free = λ _. refl;
  one = omega arith;
  held = refl;
  each = opened;
  count = refl;
  later = later;
  stand = λ k d inside. absurd (omega arith);
  ended = refl;
  longest = inl (0, opener p, refl, refl);
} where
  lone : (j : ℕ) (v : View) → get_elem? (opener p ∷ []) j ≡ some v → (j ≡ 0) × (opener p ≡ v)
  lone zero v e = (refl, some-injective (opener p) v e)
  lone (suc j) v e = absurd (some-ne-none v (sym e))

  lives : Lives p p.history 0 [] 0 (opener p)
  lives = record {
    number = refl;
    opened = refl;
    sound = record { legal = legal; own = own; later = λ _ m more. later m more };
    begins = ([], sym (append-nil p.history));
    mine = own;
    read = omega arith;
    current = λ _. refl;
    leads = λ _. (refl, refl);
    alone = λ k d inside. absurd (omega arith);
  }

  here : LivesOrEnded p p.history 0 [] 0 (opener p)
  here = ((λ _. lives), λ ended. cc)

  opened : (j : ℕ) (v : View) → get_elem? (opener p ∷ []) j ≡ some v → LivesOrEnded p p.history 0 [] j v
  opened j v e = let t = lone j v e in subst (λ (z : ℕ × View). LivesOrEnded p p.history 0 [] z.0 z.1) (λ i. (sym t.0 i, t.1 i)) here

-- the same, as the code finds it: q is the board as the key has it
pub opens_with : (p q : Position) (boards : List Position) (n : ℕ) → q ≡ p → boards ≡ p ∷ [] → n ≡ length p.history → IsLegal p → All (λ (e : Noted). e.by ≡ 0) p.history → KeepsRule q (opening (0 ∷ n ∷ []) boards (opener q))
opens_with p q boards n is one long legal zeros = let z = only_zero p.history zeros in
    subst (λ (l : List Position). KeepsRule q (opening (0 ∷ n ∷ []) l (opener q))) (sym one) (subst (λ (k : Position). KeepsRule k (opening (0 ∷ n ∷ []) (p ∷ []) (opener k))) (sym is) (opens p n long legal z.0 z.1))

-- the first pass
pub rests_first : (p q : Position) (m : Sat) → m ≡ (opener q, []) → q ≡ p → IsLegal p → All (λ (e : Noted). e.by ≡ 0) p.history → PassRests m 0 0
rests_first p q m me is legal zeros =
    let z = only_zero p.history zeros in
    let first : Sat = (opener p, []) in
    let me' : m ≡ first = me ∙ ap (λ (k : Position). let r : Sat = (opener k, []) in r) is in
    let rests : PassRests first 0 0 = record {
      idle = (refl, refl, refl);
      sound = record { legal = legal; own = z.0; later = λ _ n more. z.1 n more };
      number_is = refl;
      made_is = refl;
      kept_is = refl;
    } in subst (λ (r : Sat). PassRests r 0 0) (sym me') rests
