-- The rule, read off.
use Rattle.std.proofs.Common.{◌≡◌, ℕ, ◌≤◌, List, [], ◌∷◌, ◌++◌, length, get_or, refl, sym, ap, ◌∙◌, inl, inr, arith, length-append}
use mathlib.Core.Logic.{dite}
use native.Mathlib.Decide.{dec_le, ℕ_discrete}
use Rattle.atomic_table.specs.Table.{State}
use Rattle.board_core.specs.declared.Noted.{Noted}
use Rattle.board_core.specs.Position.{Position}
use Rattle.grid_lock.specs.declared.view.View.{View}
use Rattle.grid_lock.specs.Views.{entries_by, Extends}
use Rattle.grid_lock.specs.Turn.{KeepsRule}
use Rattle.grid_lock.specs.Moments.{Moment}
use Rattle.grid_lock.proofs.Lists.{tally_at, tally_two}

-- of two beginnings of one list, the shorter begins the longer
begins : (xs ys more rest : List Noted) → xs ++ more ≡ ys ++ rest → length xs ≤ length ys → Extends ys xs
begins [] ys more rest e le = (ys, refl)
begins (x ∷ xs) [] more rest e le = absurd (omega arith)
begins (x ∷ xs) (y ∷ ys) more rest e le =
    let t = begins xs ys more rest (cc) (omega arith) in
    let h : x ≡ y = cc in
    (t.0, λ i. sym h i ∷ t.1 i)

pub moment : (start : Position) (s : State Position View) → KeepsRule start s → Moment start s
moment start s r =
    let turn : get_or s.words 0 0 ≡ r.turn = ap (λ l. get_or l 0 0) r.words in
    let long : get_or s.words 1 0 ≡ length r.log = ap (λ l. get_or l 1 0) r.words in record {
      one = λ i j v w a b.
          let p = (r.each i v a.0).0 a.1 in
          let q = (r.each j w b.0).0 b.1 in
          dite (dec_le (length w.seen) (length v.seen))
          (λ le. inl (begins w.seen v.seen q.begins.0 p.begins.0 (sym q.begins.1 ∙ p.begins.1) le))
          (λ over. inr (begins v.seen w.seen p.begins.0 q.begins.0 (sym p.begins.1 ∙ q.begins.1) (omega arith)));
      within = λ j v a. let p = (r.each j v a.0).0 a.1 in let read = p.read in (omega (arith, ap length p.begins.1, length-append v.seen p.begins.0), omega arith);
      home = λ free. (
        r.log,
        r.slot ∙ ap (λ h. h ∷ []) (r.free (sym turn ∙ free)),
        r.legal,
        sym long,
        (λ j v a. ((r.each j v a.0).0 a.1).begins),
      );
      holder = λ j v a holds.
          let p = (r.each j v a.0).0 a.1 in
          let some_holds = tally_at (λ u. u.holding) s.views j v a.0 holds in
          let held = r.held in
          let one = r.one in
          (omega arith, ap length (p.current holds) ∙ sym long);
      alone = λ i j v w a b holds too. dite (ℕ_discrete i j) (λ same. same) (λ apart.
          let two = tally_two (λ u. u.holding) s.views i j v w apart a.0 b.0 holds too in let held = r.held in let one = r.one in absurd (omega arith));
      own = λ j v a. let p = (r.each j v a.0).0 a.1 in ap (λ (n : ℕ). entries_by n v.seen) (sym p.number) ∙ p.sound.own;
    }
