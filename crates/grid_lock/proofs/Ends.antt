-- The board at the end, and what its history says.
use Rattle.std.proofs.Common.{◌≡◌, ◌≢◌, ℕ, ◌+◌, ◌≤◌, true, false, List, [], ◌++◌, length, map, refl, sym, ap, ◌∙◌, subst, arith, lt_of_not-le}
use Rattle.std.proofs.lemmas.List.{get_or-map, length-map}
use Rattle.std.proofs.lemmas.List.Elements.{All-map}
use Rattle.std.specs.List.{All, Any}
use mathlib.Core.Logic.{dite}
use mathlib.Core.Option.{some, some-injective}
use native.Mathlib.Decide.{dec_le, ℕ_discrete}
use lib.ListN.{get_elem?}
use Rattle.atomic_table.specs.Table.{State, Final, Seen}
use Rattle.board_core.specs.declared.Noted.{Noted}
use Rattle.board_core.specs.Position.{Position, with_history, IsLegal}
use Rattle.grid_lock.specs.declared.view.View.{View}
use Rattle.grid_lock.specs.declared.view.Gone.{Gone}
use Rattle.grid_lock.specs.Views.{entries_by, Extends}
use Rattle.grid_lock.specs.inside.Views.{gone}
use Rattle.grid_lock.specs.Turn.{tally, Stands, KeepsRule}
use Rattle.grid_lock.specs.Passes.{NamedGrid, Known, Closes}
use Rattle.grid_lock.specs.inside.Passes.{gathered}
use Rattle.grid_lock.proofs.Lists.{there, tally_rest, tally_none}

-- the end: pass 0 has not ended, and keeps as many passes as it split off
module _ (start : Position) where
  no_holder : (s : State Position View) (r : KeepsRule start s) (id : ℕ) (v : View) → get_elem? s.views id ≡ some v → v.number ≡ 0 → v.ended ≡ false → v.holding ≡ false → length v.kept ≡ v.made
      → ((j : ℕ) (u : View) → j ≢ 0 → get_elem? s.views j ≡ some u → u.ended ≡ true) × (r.turn ≡ 0)
  no_holder s r id v at first alive idle all =
      let k = (r.each id v at).0 alive in
      let zero_id : id ≡ 0 = sym k.number ∙ first in
      let leads = k.leads zero_id in
      let count = r.count in
      let ended = r.ended in
      let at_zero : get_elem? s.views 0 ≡ some v = ap (get_elem? s.views) (sym zero_id) ∙ at in
      let enough : length s.views ≤ tally (λ u. u.ended) s.views + 1 = omega (arith, ap length leads.1) in
      let others : (j : ℕ) (u : View) → j ≢ 0 → get_elem? s.views j ≡ some u → u.ended ≡ true = tally_rest (λ u. u.ended) s.views v at_zero alive enough in
      let none_holds : (j : ℕ) (u : View) → get_elem? s.views j ≡ some u → u.holding ≡ false = λ j u e. dite (ℕ_discrete j 0)
      (λ here. ap (λ (w : View). w.holding) (some-injective u v (sym e ∙ (ap (get_elem? s.views) here ∙ at_zero))) ∙ idle)
      (λ away. ((r.each j u e).1 (others j u away e)).idle) in
      (others, sym r.held ∙ tally_none (λ u. u.holding) s.views none_holds)

  nobody_there : (n : ℕ) (kept : List Gone) → All (λ (g : Gone). g.number ≢ n) kept → Any (λ (g : Gone). g.number ≡ n) kept → ⊥
  nobody_there n kept nobody one = nobody one.0 one.1 one.2 (ap (λ (g : Gone). g.number) one.3 ∙ one.4)

  -- the board at the end, what its history says of pass 0 and of the kept passes, and whose entries it has
  pub ends : (ws : List ℕ) (xs : List Position) (id : ℕ) (v : View) → v.number ≡ 0 → v.ended ≡ false → v.holding ≡ false → length v.kept ≡ v.made → Final (Seen (KeepsRule start) id v) ws xs
      → (log : List Noted) × (get_elem? xs 0 ≡ some (with_history start log)) × IsLegal (with_history start log)
      × (Extends log v.seen × (entries_by v.number log ≡ v.mine) × (v.read ≤ length log))
      × All (Stands log v.made) v.kept
      × ((n : ℕ) → n ≢ 0 → All (λ (g : Gone). g.number ≢ n) v.kept → entries_by n log ≡ [])
  ends ws xs id v first alive idle all end =
      let s = end.0 in
      let r = end.1.0 in
      let at = end.1.1 in
      let k = (r.each id v at).0 alive in
      let zero_id : id ≡ 0 = sym k.number ∙ first in
      let leads = k.leads zero_id in
      let rest = no_holder s r id v at first alive idle all in
      let at_home : get_elem? s.homes 0 ≡ some (some (with_history start r.log)) = ap (λ l. get_elem? l 0) r.slot ∙ ap some (r.free rest.1) in
      let count = r.count in (
        r.log,
        end.4 0 (with_history start r.log) at_home,
        r.legal,
        (k.begins, ap (λ (n : ℕ). entries_by n r.log) k.number ∙ k.mine, k.read),
        subst (λ (z : ℕ × List Gone). All (Stands r.log z.0) z.1) (λ i. (sym leads.0 i, sym leads.1 i)) r.stand,
        (λ n not_zero nobody. dite (dec_le n r.made)
            (λ given. let u = there s.views n (omega arith) in
            let noted = ((r.each n u.0 u.1).1 (rest.0 n u.0 not_zero u.1)).noted in
            let kept_is : v.kept ≡ r.kept = leads.1 in
            absurd (nobody_there n r.kept (subst (λ l. All (λ (g : Gone). g.number ≢ n) l) kept_is nobody) noted))
            (λ over. r.later n (lt_of_not-le over))),
      )

  -- what holds of the kept passes holds of those that were handed in
  handed : (P : Gone → Type 0) (ps : List Known) → All P (map (λ (p : Known). gone p.view) ps) → All (λ (p : Known). P (gone p.view)) ps
  handed P ps all k d inside = subst P (get_or-map (λ (p : Known). gone p.view) ps k d (gone d.view) inside) (all k (gone d.view) (let t = length-map ps (λ (p : Known). gone p.view) in omega arith))

  keeping : (P : Gone → Type 0) (ps : List Known) → All (λ (p : Known). P (gone p.view)) ps → All P (map (λ (p : Known). gone p.view) ps)
  keeping P ps all = All-map P (λ (p : Known). gone p.view) ps all

  pub closes : (g : NamedGrid) (first : Known) (others : List Known) (ws : List ℕ) (xs : List Position) (id : ℕ) (v : View) (b : Position) → g.opened ≡ start → first.view.number ≡ 0 → first.view.ended ≡ false → first.view.holding ≡ false → first.view.kept ≡ []
      → length others ≡ first.view.made → v ≡ gathered first.view others → Final (Seen (KeepsRule start) id v) ws xs → get_elem? xs 0 ≡ some b → Closes g first others b
  closes g first others ws xs id v b same number alive idle no_kept all is end taken =
      let w : View = gathered first.view others in
      let gones : List Gone = map (λ (p : Known). gone p.view) others in
      let kept_is : w.kept ≡ gones = ap (λ (l : List Gone). l ++ gones) no_kept in
      let long : length w.kept ≡ w.made = ap length kept_is ∙ (length-map others (λ (p : Known). gone p.view) ∙ all) in
      let e = ends ws xs id w number alive idle long (subst (λ (u : View). Final (Seen (KeepsRule start) id u) ws xs) is end) in
      let board : b ≡ with_history g.opened e.0 = some-injective b (with_history start e.0) (sym taken ∙ e.1) ∙ ap (λ (p : Position). with_history p e.0) (sym same) in
      let log_is : b.history ≡ e.0 = ap (λ (p : Position). p.history) board in
      let stand = handed (Stands e.0 w.made) others (subst (λ l. All (Stands e.0 w.made) l) kept_is e.4) in
      let closed : Closes g first others (with_history g.opened e.0) = record {
        same = refl;
        legal = subst (λ (p : Position). IsLegal (with_history p e.0)) (sym same) e.2;
        leads = record { begins = e.3.0; mine = e.3.1; read = e.3.2 };
        each = λ k d inside. let h = stand k d inside in record { begins = h.begins; mine = h.mine; read = h.read };
        no_other = λ n ne nobody. e.5 n ne (subst (λ l. All (λ (g : Gone). g.number ≢ n) l) (sym kept_is) (keeping (λ (g : Gone). g.number ≢ n) others nobody));
      } in subst (Closes g first others) (sym board) closed
