-- Each step on the grid's table keeps its rule.
use Rattle.std.proofs.Common.{◌≡◌, ◌≢◌, ℕ, ◌+◌, ◌%◌, ◌^◌, ◌≤◌, true, false, eqb, List, [], ◌∷◌, ◌++◌, length, set, get_or, refl, sym, ap, ◌∙◌, subst, ◌⊎◌, inl, inr, ⊎_elim, arith, length-append, length-set, append-nil, eq-eqb, ne_eqb}
use Rattle.std.proofs.lemmas.List.{set-get_or}
use Rattle.std.proofs.Math.Seq.{drop-append_seam}
use Rattle.std.proofs.Math.Nat.{mod-eq_of_lt}
use Rattle.std.specs.List.{All, Any}
use mathlib.Core.Logic.{dite}
use mathlib.Core.Option.{none, some, some-injective}
use native.Mathlib.Decide.{ℕ_discrete}
use lib.ListN.{get_elem?}
use prog.Atomic.{either}
use Rattle.atomic_table.specs.Table.{State, Me, step, keeps, takes, gives, stepped, rest, opening, Allows, Splits, Joins, Final, Seen}
use Rattle.std.proofs.lemmas.List.Quantifiers.{Any-push}
use Rattle.atomic_table.proofs.Lists.{at_set, set_else, at_longer}
use Rattle.board_core.specs.declared.Noted.{Noted}
use Rattle.board_core.specs.Position.{Position, with_history, IsLegal}
use Rattle.grid_lock.specs.declared.view.View.{View}
use Rattle.grid_lock.specs.declared.view.Gone.{Gone}
use Rattle.grid_lock.specs.Views.{entries_by, Extends, met, reading, dealing, newcomer, IsSound}
use Rattle.grid_lock.specs.inside.Views.{taking, counting, adding, freeing, gone, gathering, spent}
use Rattle.grid_lock.specs.Turn.{Stands, Lives, LivesOrEnded, KeepsRule, Somewhere}
use Rattle.grid_lock.specs.inside.Plays.{Sat, took, counted, looked, history_of, added, freed}
use Rattle.grid_lock.proofs.Lists.{some_here, some_set, entries_mine, entries_other, extends_longer, any_longer, all_more, at_end, at_inside, off, on, each_set, tally_set, tally_same, tally_snoc, tally_at, tally_two}

module _ (start : Position) where
  abbrev St : Type 0
  St = State Position View

  abbrev Rule : St → Type 0
  Rule = KeepsRule start

  -- a pass that has not ended fits by what it knows
  fits : (log : List Noted) (made : ℕ) (kept : List Gone) (j : ℕ) (v : View) → v.ended ≡ false → Lives start log made kept j v → LivesOrEnded start log made kept j v
  fits log made kept j v alive lives = ((λ _. lives), λ ended. cc)

  -- some pass, or one that has ended, has still seen all
  still : (log : List Noted) (kept : List Gone) (vs : List View) (id : ℕ) (v w : View) → get_elem? vs id ≡ some v → (v.seen ≡ log → w.seen ≡ log)
      → Somewhere (λ u. u.seen ≡ log) vs ⊎ Any (λ (g : Gone). g.seen ≡ log) kept → Somewhere (λ u. u.seen ≡ log) (set vs id w) ⊎ Any (λ (g : Gone). g.seen ≡ log) kept
  still log kept vs id v w at on longest = ⊎_elim (λ x. inl (some_set (λ u. u.seen ≡ log) vs id v w at on x)) (λ g. inr g) longest

  -- a step that changes neither word nor slot, of a view that still holds the turn or still does not
  retold : (s : St) (r : Rule s) (id : ℕ) (v w : View) (ws : List ℕ) → get_elem? s.views id ≡ some v → Lives start r.log r.made r.kept id w → v.ended ≡ false → w.ended ≡ false → w.holding ≡ v.holding → w.seen ≡ v.seen
      → ws ≡ s.words → Rule record { words = ws; homes = s.homes; views = set s.views id w }
  retold s r id v w ws at lives was alive same kept_seen here = record {
    turn = r.turn;
    log = r.log;
    made = r.made;
    kept = r.kept;
    home = r.home;
    words = here ∙ r.words;
    slot = r.slot;
    legal = r.legal;
    free = r.free;
    one = r.one;
    held = tally_same (λ u. u.holding) s.views id v w at same ∙ r.held;
    each = each_set (LivesOrEnded start r.log r.made r.kept) (LivesOrEnded start r.log r.made r.kept) s.views id w (fits r.log r.made r.kept id w alive lives) (λ j u _ _ f. f) r.each;
    count = length-set s.views id w ∙ r.count;
    later = r.later;
    stand = r.stand;
    ended = tally_same (λ u. u.ended) s.views id v w at (alive ∙ sym was) ∙ r.ended;
    longest = still r.log r.kept s.views id v w at (λ is. kept_seen ∙ is) r.longest;
  }

  -- the same knowledge, with other counts
  lives_on : (log : List Noted) (made : ℕ) (kept : List Gone) (j : ℕ) (v : View) (m l t n : ℕ) → Lives start log made kept j v → n ≤ length log
      → Lives start log made kept j (record v { met = m; loads = l; turns = t; read = n })
  lives_on log made kept j v m l t n k le = record {
    number = k.number;
    opened = k.opened;
    sound = record { legal = k.sound.legal; own = k.sound.own; later = k.sound.later };
    begins = k.begins;
    mine = k.mine;
    read = le;
    current = k.current;
    leads = k.leads;
    alone = k.alone;
  }

  found_length : (s : St) (r : Rule s) → get_or s.words 1 0 ≡ length r.log
  found_length s r = ap (λ l. get_or l 1 0) r.words

  found_turn : (s : St) (r : Rule s) → get_or s.words 0 0 ≡ r.turn
  found_turn s r = ap (λ l. get_or l 0 0) r.words

  seen_fits : (log seen : List Noted) → Extends log seen → length seen ≤ length log
  seen_fits log seen begun = omega (arith, ap length begun.1, length-append seen begun.0)

  pub looks : (slots id : ℕ) (me : Sat) → me.0.ended ≡ false → me.0.holding ≡ false → Allows Rule slots id me 1 (λ n. n) (looked (step slots 1 0 0 none) me)
  looks slots id me alive idle s r _ at _ =
      let v : View = me.0 in
      let n : ℕ = get_or s.words 1 0 in
      let k = (r.each id v at).0 alive in
      let is = found_length s r in
      let long = seen_fits r.log v.seen k.begins in
      let read = k.read in
      let w : View = reading v n in (
        w,
        keeps,
        tt,
        retold s r id v w (set s.words 1 n) at (lives_on r.log r.made r.kept id v v.met (v.loads + 1) v.turns n k (omega arith)) alive alive refl refl (set-get_or s.words 1 0),
        (omega arith, omega arith, refl, (let short = r.legal.short in omega arith)),
      )

  pub counts : (slots id : ℕ) (me : Sat) → me.0.ended ≡ false → me.0.holding ≡ true → Allows Rule slots id me 1 (λ n. n) (counted (step slots 1 0 0 none) me)
  counts slots id me alive holds s r _ at _ =
      let v : View = me.0 in
      let n : ℕ = get_or s.words 1 0 in
      let k = (r.each id v at).0 alive in
      let w : View = counting v in (
        w,
        keeps,
        tt,
        retold s r id v w (set s.words 1 n) at (lives_on r.log r.made r.kept id v v.met (v.loads + 1) (v.turns + 1) v.read k k.read) alive alive refl refl (set-get_or s.words 1 0),
        (found_length s r ∙ ap length (sym (k.current holds)), refl),
      )

  -- the turn was free, and the seat has it now, with the board
  wins : (s : St) (r : Rule s) (id : ℕ) (me : Sat) → get_elem? s.views id ≡ some me.0 → me.0.ended ≡ false → me.0.holding ≡ false → r.turn ≡ 0
      → (IsSound (taking me.0 r.log)) × Rule record { words = set s.words 0 1; homes = set s.homes 0 none; views = set s.views id (taking me.0 r.log) }
  wins s r id me at alive idle was_free =
      let v : View = me.0 in
      let k = (r.each id v at).0 alive in
      let w : View = taking v r.log in
      let sound : IsSound w = record {
        legal = subst (λ (p : Position). IsLegal (with_history p r.log)) (sym k.opened) r.legal;
        own = ap (λ (n : ℕ). entries_by n r.log) k.number ∙ k.mine;
        later = λ first n more. let m = (k.leads (sym k.number ∙ first)).0 in r.later n (omega arith);
      } in (
        sound,
        record {
          turn = 1;
          log = r.log;
          made = r.made;
          kept = r.kept;
          home = none;
          words = ap (λ l. set l 0 1) r.words;
          slot = ap (λ l. set l 0 none) r.slot;
          legal = r.legal;
          free = λ e. absurd (omega arith);
          one = omega arith;
          held = (let t = tally_set (λ u. u.holding) s.views id v w at in let h = r.held in let b = off v.holding idle in omega arith);
          each = each_set (LivesOrEnded start r.log r.made r.kept) (LivesOrEnded start r.log r.made r.kept) s.views id w
              (fits r.log r.made r.kept id w alive record {
                number = k.number;
                opened = k.opened;
                sound = sound;
                begins = ([], sym (append-nil r.log));
                mine = k.mine;
                read = k.read;
                current = λ _. refl;
                leads = k.leads;
                alone = k.alone;
              })
              (λ j u _ _ f. f) r.each;
          count = length-set s.views id w ∙ r.count;
          later = r.later;
          stand = r.stand;
          ended = tally_same (λ u. u.ended) s.views id v w at refl ∙ r.ended;
          longest = inl (some_here (λ u. u.seen ≡ r.log) s.views id v w at refl);
        },
      )

  pub takes_turn : (slots id : ℕ) (me : Sat) → me.0.ended ≡ false → me.0.holding ≡ false → Allows Rule slots id me 0 (λ n. either (eqb n 0) 1 n) (took (step slots 0 0 1 none) me)
  takes_turn slots id me alive idle s r _ at _ =
      let v : View = me.0 in
      let x : ℕ = get_or s.words 0 0 in
      let k = (r.each id v at).0 alive in
      dite (ℕ_discrete x 0)
      (λ hit.
      let won = wins s r id me at alive idle (sym (found_turn s r) ∙ hit) in
      let board : Position = with_history v.opened r.log in
      let home : r.home ≡ some board = r.free (sym (found_turn s r) ∙ hit) ∙ ap (λ (p : Position). some (with_history p r.log)) (sym k.opened) in
      let w : View = taking v r.log in (
        w,
        takes 0 board,
        ap (λ l. get_elem? l 0) r.slot ∙ ap some home,
        subst (λ b. Rule (stepped s 0 (either b 1 x) id me.1 w (takes 0 board))) (sym (eq-eqb x 0 hit)) won.1,
        ((λ _. (r.log, (k.begins, k.read, won.0), refl)), λ miss. absurd (miss hit)),
      ))
      (λ miss.
      let w : View = met v in (
        w,
        keeps,
        tt,
        subst (λ b. Rule (stepped s 0 (either b 1 x) id me.1 w keeps)) (sym (ne_eqb x 0 miss))
            (retold s r id v w (set s.words 0 x) at (lives_on r.log r.made r.kept id v (v.met + 1) v.loads v.turns v.read k k.read) alive alive refl refl (set-get_or s.words 0 0)),
        ((λ hit. absurd (miss hit)), λ _. refl),
      ))

  -- what is kept of the ended passes still holds, where a pass that has not ended made an entry
  stands_on : (log : List Noted) (made : ℕ) (e : Noted) (kept : List Gone) → All (λ (g : Gone). g.number ≢ e.by) kept → All (Stands log made) kept → All (Stands (log ++ e ∷ []) made) kept
  stands_on log made e kept others stand k d inside = let g : Gone = get_or kept k d in let h = stand k d inside in record {
    given = h.given;
    begins = extends_longer log g.seen (e ∷ []) h.begins;
    mine = entries_other g.number log e (λ is. others k d inside (sym is)) ∙ h.mine;
    read = (let t = h.read in omega (arith, length-append log (e ∷ [])));
  }

  -- another pass after the entry e
  fits_on : (log : List Noted) (made : ℕ) (kept : List Gone) (e : Noted) (j : ℕ) (u : View) → j ≢ e.by → u.holding ≢ true → LivesOrEnded start log made kept j u → LivesOrEnded start (log ++ e ∷ []) made kept j u
  fits_on log made kept e j u other idle f = (
    (λ alive. let k = f.0 alive in record {
      number = k.number;
      opened = k.opened;
      sound = k.sound;
      begins = extends_longer log u.seen (e ∷ []) k.begins;
      mine = entries_other j log e (λ is. other (sym is)) ∙ k.mine;
      read = (let t = k.read in omega (arith, length-append log (e ∷ [])));
      current = λ holds. absurd (idle holds);
      leads = k.leads;
      alone = k.alone;
    }),
    f.1,
  )

  abbrev grown : View → Noted → View
  grown v e = record v { seen = v.seen ++ e ∷ []; mine = v.mine ++ e ∷ [] }

  -- the view is the one that `added` names
  grown_is : (v : View) (e : Noted) (c : List (ℕ × Position)) → c ≡ (0, with_history v.opened (v.seen ++ e ∷ [])) ∷ [] → grown v e ≡ adding v (history_of c)
  grown_is v e c is = sym (ap (λ l. adding v (history_of l)) is ∙ ap (λ (l : List Noted). record v { seen = v.seen ++ e ∷ []; mine = v.mine ++ l }) (drop-append_seam v.seen (e ∷ [])))

  pub adds : (slots id : ℕ) (me : Sat) (e : Noted) → me.0.ended ≡ false → me.0.holding ≡ true → me.1 ≡ (0, with_history me.0.opened (me.0.seen ++ e ∷ [])) ∷ [] → e.by ≡ me.0.number
      → IsLegal (with_history me.0.opened (me.0.seen ++ e ∷ [])) → Allows Rule slots id me 1 (λ n. (n + 1) % 2 ^ 64) (added (step slots 1 1 0 none) me)
  adds slots id me e alive holds board own legal s r _ at _ =
      let v : View = me.0 in
      let n : ℕ = get_or s.words 1 0 in
      let k = (r.each id v at).0 alive in
      let log : List Noted = r.log in
      let log' : List Noted = log ++ e ∷ [] in
      let same : v.seen ≡ log = k.current holds in
      let same' : v.seen ++ e ∷ [] ≡ log' = ap (λ l. l ++ e ∷ []) same in
      let mine : e.by ≡ id = own ∙ k.number in
      let w : View = grown v e in
      let inside = at_inside s.views id v at in
      let count = r.count in
      let legal' : IsLegal (with_history start log') = subst (λ (z : Position × List Noted). IsLegal (with_history z.0 z.1)) (λ i. (k.opened i, same' i)) legal in
      let short = legal'.short in
      let longer = length-append log (e ∷ []) in
      let found = found_length s r in
      let next : (n + 1) % 2 ^ 64 ≡ length log' = mod-eq_of_lt (omega arith) ∙ omega arith in (
        w,
        keeps,
        tt,
        record {
          turn = r.turn;
          log = log';
          made = r.made;
          kept = r.kept;
          home = r.home;
          words = ap (λ l. set l 1 ((n + 1) % 2 ^ 64)) r.words ∙ ap (λ m. r.turn ∷ m ∷ []) next;
          slot = r.slot;
          legal = legal';
          free = λ zero_turn. (let t = tally_at (λ u. u.holding) s.views id v at holds in let h = r.held in absurd (omega arith));
          one = r.one;
          held = tally_same (λ u. u.holding) s.views id v w at refl ∙ r.held;
          each = each_set (LivesOrEnded start log r.made r.kept) (LivesOrEnded start log' r.made r.kept) s.views id w
              (fits log' r.made r.kept id w alive record {
                number = k.number;
                opened = k.opened;
                sound = record {
                  legal = legal;
                  own = entries_mine v.number v.seen e own ∙ ap (λ l. l ++ e ∷ []) k.sound.own;
                  later = λ first m more. entries_other m v.seen e (λ is. (let t : e.by ≡ 0 = own ∙ first in omega arith)) ∙ k.sound.later first m more;
                };
                begins = ([], sym same' ∙ sym (append-nil (v.seen ++ e ∷ [])));
                mine = entries_mine id log e mine ∙ ap (λ l. l ++ e ∷ []) k.mine;
                read = (let t = k.read in omega arith);
                current = λ _. same';
                leads = k.leads;
                alone = k.alone;
              })
              (λ j u other there f. fits_on log r.made r.kept e j u (λ is. other (is ∙ mine))
              (λ too. (let t = tally_two (λ u. u.holding) s.views id j v u (λ is. other (sym is)) at there holds too in let h = r.held in let o = r.one in absurd (omega arith))) f) r.each;
          count = length-set s.views id w ∙ r.count;
          later = λ m more. entries_other m log e (λ is. (omega arith)) ∙ r.later m more;
          stand = stands_on log r.made e r.kept (subst (λ (z : ℕ). All (λ (g : Gone). g.number ≢ z) r.kept) (sym mine) k.alone) r.stand;
          ended = tally_same (λ u. u.ended) s.views id v w at refl ∙ r.ended;
          longest = inl (some_here (λ u. u.seen ≡ log') s.views id v w at same');
        },
        ap (λ (z : View). let m : Sat = (z, me.1) in m) (grown_is v e me.1 board),
      )

  pub frees : (slots id : ℕ) (me : Sat) → me.0.ended ≡ false → me.0.holding ≡ true → me.1 ≡ (0, with_history me.0.opened me.0.seen) ∷ [] → Allows Rule slots id me 0 (λ _. 0) (λ _. freed (step slots 0 0 0 none) me 0)
  frees slots id me alive holds board s r _ at _ =
      let v : View = me.0 in
      let k = (r.each id v at).0 alive in
      let w : View = freeing v in
      let same : with_history v.opened v.seen ≡ with_history start r.log = λ i. with_history (k.opened i) (k.current holds i) in (
        w,
        gives,
        tt,
        record {
          turn = 0;
          log = r.log;
          made = r.made;
          kept = r.kept;
          home = some (with_history v.opened v.seen);
          words = ap (λ l. set l 0 0) r.words;
          slot = ap (λ c. Rattle.atomic_table.specs.Table.put_back s.homes c) board ∙ ap (λ l. set l 0 (some (with_history v.opened v.seen))) r.slot;
          legal = r.legal;
          free = λ _. ap some same;
          one = omega arith;
          held = (let t = tally_set (λ u. u.holding) s.views id v w at in let h = r.held in let o = r.one in let b = on v.holding holds in omega arith);
          each = each_set (LivesOrEnded start r.log r.made r.kept) (LivesOrEnded start r.log r.made r.kept) s.views id w
              (fits r.log r.made r.kept id w alive record {
                number = k.number;
                opened = k.opened;
                sound = record { legal = k.sound.legal; own = k.sound.own; later = k.sound.later };
                begins = k.begins;
                mine = k.mine;
                read = k.read;
                current = λ again. cc;
                leads = k.leads;
                alone = k.alone;
              })
              (λ j u _ _ f. f) r.each;
          count = length-set s.views id w ∙ r.count;
          later = r.later;
          stand = r.stand;
          ended = tally_same (λ u. u.ended) s.views id v w at refl ∙ r.ended;
          longest = still r.log r.kept s.views id v w at (λ is. is) r.longest;
        },
        refl,
      )

  pub deals : (id : ℕ) (v : View) → v.number ≡ 0 → v.ended ≡ false → v.holding ≡ false → Splits Rule id v (dealing v) (newcomer v)
  deals id v first alive idle s r at =
      let k = (r.each id v at).0 alive in
      let zero_id : id ≡ 0 = sym k.number ∙ first in
      let leads = k.leads zero_id in
      let made' : ℕ = r.made + 1 in
      let up : v.made + 1 ≡ made' = ap (λ (n : ℕ). n + 1) leads.0 in
      let vs : List View = set s.views id (dealing v) in
      let w : View = newcomer v in
      let long : length vs ≡ made' = length-set s.views id (dealing v) ∙ r.count in
      let stand : All (Stands r.log made') r.kept = λ i d inside. let h = r.stand i d inside in record { given = (let g = h.given in omega arith); begins = h.begins; mine = h.mine; read = h.read } in
      let own : entries_by made' r.log ≡ [] = r.later made' (omega arith) in
      let olds : (j : ℕ) (u : View) → get_elem? vs j ≡ some u → LivesOrEnded start r.log made' r.kept j u =
      each_set (LivesOrEnded start r.log r.made r.kept) (LivesOrEnded start r.log made' r.kept) s.views id (dealing v)
      (fits r.log made' r.kept id (dealing v) alive record {
        number = k.number;
        opened = k.opened;
        sound = record { legal = k.sound.legal; own = k.sound.own; later = λ z n more. k.sound.later z n (omega arith) };
        begins = k.begins;
        mine = k.mine;
        read = k.read;
        current = k.current;
        leads = λ z. (up, leads.1);
        alone = k.alone;
      })
      (λ j u other there f. (
        (λ living. let q = f.0 living in record {
          number = q.number;
          opened = q.opened;
          sound = q.sound;
          begins = q.begins;
          mine = q.mine;
          read = q.read;
          current = q.current;
          leads = λ z. absurd (other (z ∙ sym zero_id));
          alone = q.alone;
        }),
        f.1,
      )) r.each in
      let new : (j : ℕ) → j ≡ length vs → LivesOrEnded start r.log made' r.kept j w = λ j is. fits r.log made' r.kept j w refl record {
        number = up ∙ sym (is ∙ long);
        opened = k.opened;
        sound = record { legal = k.sound.legal; own = k.sound.later first (v.made + 1) (omega arith); later = λ z. absurd (omega arith) };
        begins = k.begins;
        mine = ap (λ (n : ℕ). entries_by n r.log) (is ∙ long) ∙ own;
        read = omega arith;
        current = λ holds. cc;
        leads = λ z. absurd (omega arith);
        alone = λ i d inside same. (let h = r.stand i d inside in let g = h.given in absurd (omega arith));
      } in record {
        turn = r.turn;
        log = r.log;
        made = made';
        kept = r.kept;
        home = r.home;
        words = r.words;
        slot = r.slot;
        legal = r.legal;
        free = r.free;
        one = r.one;
        held = (let t = tally_snoc (λ u. u.holding) vs w in let q = tally_same (λ u. u.holding) s.views id v (dealing v) at refl in let h = r.held in omega arith);
        each = λ j u e. ⊎_elim (λ (t : get_elem? vs j ≡ some u). olds j u t) (λ (t : (j ≡ length vs) × (w ≡ u)). subst (LivesOrEnded start r.log made' r.kept j) t.1 (new j t.0)) (at_end vs w u j e);
        count = (let a = length-append vs (w ∷ []) in omega arith);
        later = λ n more. r.later n (omega arith);
        stand = stand;
        ended = (let t = tally_snoc (λ u. u.ended) vs w in let q = tally_same (λ u. u.ended) s.views id v (dealing v) at refl in let h = r.ended in omega arith);
        longest = ⊎_elim (λ (x : Somewhere (λ u. u.seen ≡ r.log) vs). inl (x.0, x.1, at_longer vs (w ∷ []) x.0 x.1 x.2, x.3)) (λ g. inr g) (still r.log r.kept s.views id v (dealing v) at (λ is. is) r.longest);
      }

  pub gathers : (id : ℕ) (v : View) (other : ℕ) (w : View) → v.number ≡ 0 → v.ended ≡ false → w.ended ≡ false → w.holding ≡ false → Joins Rule id v other w (gathering v w) spent
  gathers id v other w first alive living idle s r at apart there' =
      let k = (r.each id v at).0 alive in
      let at' : get_elem? s.views other ≡ some w = sym (set_else s.views id other (gathering v w) apart) ∙ there' in
      let q = (r.each other w at').0 living in
      let zero_id : id ≡ 0 = sym k.number ∙ first in
      let leads = k.leads zero_id in
      let kept' : List Gone = r.kept ++ gone w ∷ [] in
      let vs : List View = set s.views id (gathering v w) in
      let inside = at_inside s.views other w at' in
      let count = r.count in
      let alone : (j : ℕ) → j ≢ other → All (λ (g : Gone). g.number ≢ j) r.kept → All (λ (g : Gone). g.number ≢ j) kept' =
      λ j ne all. all_more (λ (g : Gone). g.number ≢ j) r.kept (gone w) all (λ is. ne (sym is ∙ q.number)) in
      let olds : (j : ℕ) (u : View) → get_elem? vs j ≡ some u → (j ≢ other → LivesOrEnded start r.log r.made kept' j u) =
      each_set (LivesOrEnded start r.log r.made r.kept) (λ j u. j ≢ other → LivesOrEnded start r.log r.made kept' j u) s.views id (gathering v w)
      (λ ne. fits r.log r.made kept' id (gathering v w) alive record {
        number = k.number;
        opened = k.opened;
        sound = record { legal = k.sound.legal; own = k.sound.own; later = k.sound.later };
        begins = k.begins;
        mine = k.mine;
        read = k.read;
        current = k.current;
        leads = λ z. (leads.0, ap (λ l. l ++ gone w ∷ []) leads.1);
        alone = alone id ne k.alone;
      })
      (λ j u ne _ f away. (
        (λ lives. let p = f.0 lives in record {
          number = p.number;
          opened = p.opened;
          sound = p.sound;
          begins = p.begins;
          mine = p.mine;
          read = p.read;
          current = p.current;
          leads = λ z. absurd (ne (z ∙ sym zero_id));
          alone = alone j away p.alone;
        }),
        (λ gone_now. let p = f.1 gone_now in record { idle = p.idle; other = p.other; noted = any_longer (λ (g : Gone). g.number ≡ j) r.kept (gone w ∷ []) p.noted }),
      )) r.each in
      let spent_fits : LivesOrEnded start r.log r.made kept' other spent = (
        (λ e. cc),
        (λ e. record { idle = refl; other = (λ z. apart (z ∙ sym zero_id)); noted = Any-push (λ (g : Gone). g.number ≡ other) r.kept (gone w) q.number }),
      ) in record {
        turn = r.turn;
        log = r.log;
        made = r.made;
        kept = kept';
        home = r.home;
        words = r.words;
        slot = r.slot;
        legal = r.legal;
        free = r.free;
        one = r.one;
        held = tally_same (λ u. u.holding) vs other w spent there' (sym idle) ∙ (tally_same (λ u. u.holding) s.views id v (gathering v w) at refl ∙ r.held);
        each = λ j u e. ⊎_elim (λ (t : (j ≡ other) × (spent ≡ u)). subst (λ (z : ℕ × View). LivesOrEnded start r.log r.made kept' z.0 z.1) (λ i. (sym t.0 i, t.1 i)) spent_fits)
            (λ (t : (j ≢ other) × (get_elem? vs j ≡ some u)). olds j u t.1 t.0) (at_set vs other j spent u e);
        count = length-set vs other spent ∙ (length-set s.views id (gathering v w) ∙ r.count);
        later = r.later;
        stand = all_more (Stands r.log r.made) r.kept (gone w) r.stand record {
          given = (let n = q.number in omega arith);
          begins = q.begins;
          mine = ap (λ (n : ℕ). entries_by n r.log) q.number ∙ q.mine;
          read = q.read;
        };
        ended = (let t = tally_set (λ u. u.ended) vs other w spent there' in let p = tally_same (λ u. u.ended) s.views id v (gathering v w) at refl in let h = r.ended in let b = off w.ended living in
            omega (arith, length-append r.kept (gone w ∷ [])));
        longest = ⊎_elim
            (λ (x : Somewhere (λ u. u.seen ≡ r.log) vs). dite (ℕ_discrete x.0 other)
            (λ here. inr (Any-push (λ (g : Gone). g.seen ≡ r.log) r.kept (gone w) (ap (λ (u : View). u.seen) (some-injective w x.1 (sym there' ∙ (ap (get_elem? vs) (sym here) ∙ x.2))) ∙ x.3)))
            (λ away. inl (x.0, x.1, set_else vs other x.0 spent away ∙ x.2, x.3)))
            (λ g. inr (any_longer (λ (g : Gone). g.seen ≡ r.log) r.kept (gone w ∷ []) g))
            (still r.log r.kept s.views id v (gathering v w) at (λ is. is) r.longest);
      }
