-- Each move keeps the rule of the channel.
use Rattle.std.proofs.Common.{◌≡◌, ◌≢◌, ℕ, zero, suc, true, false, true≢false, List, [], ◌∷◌, ◌++◌, length, set, sym, refl, ap, ◌∙◌, subst, ⊎_elim, append_assoc}
use mathlib.Core.Option.{some, some-ne-none}
use lib.ListN.{get_elem?}
use Rattle.crossbeam_channel.specs.Fifo.{Pushes, Pops, Forks, Merges, Learns}
use Rattle.atomic_table.proofs.Lists.{at_set, at_snoc}
use Rattle.arrival_line.specs.declared.arrival.Message.{Message}
use Rattle.arrival_line.specs.declared.arrival.Traffic.{Traffic}
use Rattle.arrival_line.specs.Line.{traffic}
use Rattle.arrival_line.specs.inside.Line.{Fits, InOrder}
use Rattle.arrival_line.specs.Messages.{is_open, ends_last}
use Rattle.arrival_line.proofs.Words.{ends-snoc, ends-prefix}

at_end : (l : List Traffic) (a b : Traffic) (j : ℕ) → get_elem? l j ≢ some b → get_elem? (l ++ a ∷ []) j ≡ some b → j ≡ length l
at_end [] a b zero n e = refl
at_end [] a b (suc j) n e = absurd (some-ne-none b (sym e))
at_end (x ∷ xs) a b zero n e = absurd (n e)
at_end (x ∷ xs) a b (suc j) n e = ap suc (at_end xs a b j n e)

abbrev Each : (ℕ → Traffic → Type 0) → List Traffic → Type 0
Each F views = (pass : ℕ) (v : Traffic) → get_elem? views pass ≡ some v → F pass v

each_set : (F : ℕ → Traffic → Type 0) (views : List Traffic) (pass : ℕ) (w : Traffic) → F pass w → ((j : ℕ) (u : Traffic) → j ≢ pass → get_elem? views j ≡ some u → F j u) → Each F (set views pass w)
each_set F views pass w mine others j u e = ⊎_elim (λ (x : (j ≡ pass) × (w ≡ u)). subst (λ (y : ℕ × Traffic). F y.0 y.1) (λ i. (sym x.0 i, x.1 i)) mine)
    (λ (x : (j ≢ pass) × (get_elem? views j ≡ some u)). others j u x.0 x.1) (at_set views pass j w u e)

pub begins : InOrder [] (traffic true true [] [] ∷ [])
begins = (0, 0, [], [], refl, refl, each_set (Fits 0 0 [] []) (traffic true true [] [] ∷ []) 0 (traffic true true [] []) ((λ _. (refl, refl)), λ _. (refl, refl)) (λ j u other e. absurd (other (at_end [] _ u j (λ x. some-ne-none u (sym x)) e))))

pub sends : (n pass : ℕ) (v : Traffic) (m : Message) → v.sends ≡ true → is_open v.sent ≡ true → Pushes InOrder n pass v m (λ w. w ≡ traffic v.sends v.receives (v.sent ++ m ∷ []) v.got)
sends n pass v m may unended items views _ h at = let w : Traffic = traffic v.sends v.receives (v.sent ++ m ∷ []) v.got in let mine = h.6 pass v at in let sent = h.2 ++ m ∷ [] in (
  w,
  (
    h.0,
    h.1,
    sent,
    h.3,
    ap (λ l. l ++ m ∷ []) h.4 ∙ append_assoc h.3 items (m ∷ []),
    ends-snoc h.2 m (ap is_open (sym (mine.0 may).1) ∙ unended),
    each_set (Fits h.0 h.1 sent h.3) views pass w ((λ _. ((mine.0 may).0, ap (λ l. l ++ m ∷ []) (mine.0 may).1)), mine.1)
        (λ j u other e. ((λ p. absurd (other (((h.6 j u e).0 p).0 ∙ sym (mine.0 may).0))), (h.6 j u e).1)),
  ),
  refl,
)

gets_all : (pass : ℕ) (v : Traffic) → v.receives ≡ true → Pops InOrder pass v (λ m w. (w ≡ traffic v.sends v.receives v.sent (v.got ++ m ∷ [])) × (ends_last (v.got ++ m ∷ []) ≡ true))
gets_all pass v may m items views h at = let w : Traffic = traffic v.sends v.receives v.sent (v.got ++ m ∷ []) in let mine = h.6 pass v at in let got = h.3 ++ m ∷ [] in
    let all : h.2 ≡ got ++ items = h.4 ∙ sym (append_assoc h.3 (m ∷ []) items) in (
      w,
      (
        h.0,
        h.1,
        h.2,
        got,
        all,
        h.5,
        each_set (Fits h.0 h.1 h.2 got) views pass w (mine.0, λ _. ((mine.1 may).0, ap (λ l. l ++ m ∷ []) (mine.1 may).1))
            (λ j u other e. ((h.6 j u e).0, λ p. absurd (other (((h.6 j u e).1 p).0 ∙ sym (mine.1 may).0)))),
      ),
      (refl, ap (λ l. ends_last (l ++ m ∷ [])) (mine.1 may).1 ∙ ends-prefix got items (ap ends_last (sym all) ∙ h.5)),
    )

pub gets : (pass : ℕ) (v : Traffic) → v.receives ≡ true → Pops InOrder pass v (λ m w. (w ≡ traffic v.sends v.receives v.sent (v.got ++ m ∷ [])) × (ends_last (v.got ++ m ∷ []) ≡ true))
gets = gets_all

pub takes : (pass : ℕ) (v : Traffic) → v.receives ≡ true → Pops InOrder pass v (λ m w. w ≡ traffic v.sends v.receives v.sent (v.got ++ m ∷ []))
takes pass v may m items views h at = let r = gets_all pass v may m items views h at in (r.0, r.1, r.2.0)

pub forks : (pass : ℕ) (v : Traffic) → v.sends ≡ true → v.receives ≡ true → Forks InOrder pass v (traffic true false v.sent []) (traffic false true [] v.got)
forks pass v a b items views h at = let l : Traffic = traffic true false v.sent [] in let r : Traffic = traffic false true [] v.got in let mine = h.6 pass v at in let vs : List Traffic = set views pass l in
    let Old : ℕ → Traffic → Type 0 = λ j u. (u.sends ≡ true → (j ≡ h.0) × (u.sent ≡ h.2)) × (u.receives ≢ true) in
    let old : Each Old vs = each_set Old views pass l ((λ _. mine.0 a), λ p. true≢false (sym p)) (λ j u other e. ((h.6 j u e).0, λ p. other (((h.6 j u e).1 p).0 ∙ sym (mine.1 b).0))) in (
      h.0,
      length vs,
      h.2,
      h.3,
      h.4,
      h.5,
      λ j u e. ⊎_elim (λ x. ((old j u x).0, λ p. absurd ((old j u x).1 p)))
          (λ (is : r ≡ u). ((λ p. absurd (true≢false (sym (ap (λ (y : Traffic). y.sends) is ∙ p)))), λ p. (at_end vs r u j (λ x. (old j u x).1 p) e, ap (λ (y : Traffic). y.got) (sym is) ∙ (mine.1 b).1))) (at_snoc vs r u j e),
    )

pub merges : (pass : ℕ) (v : Traffic) (other : ℕ) (u : Traffic) → v.sends ≡ true → u.receives ≡ true → Merges InOrder pass v other u (traffic true true v.sent u.got) (traffic false false [] [])
merges pass v other u a b items views h at two at' = let both : Traffic = traffic true true v.sent u.got in let mine = h.6 pass v at in let vs : List Traffic = set views pass both in
    let was : get_elem? views other ≡ some u = ⊎_elim (λ x. absurd (two x.0)) (λ x. x.1) (at_set views pass other both u at') in let theirs = (h.6 other u was).1 b in
    let Now : ℕ → Traffic → Type 0 = λ j y. j ≢ other → Fits h.0 pass h.2 h.3 j y in
    let now : Each Now vs = each_set Now views pass both (λ _. ((λ _. mine.0 a), λ _. (refl, theirs.1))) (λ j y _ e apart. ((h.6 j y e).0, λ p. absurd (apart (((h.6 j y e).1 p).0 ∙ sym theirs.0)))) in
    (h.0, pass, h.2, h.3, h.4, h.5, each_set (Fits h.0 pass h.2 h.3) vs other (traffic false false [] []) ((λ p. absurd (true≢false (sym p))), λ p. absurd (true≢false (sym p))) (λ j y apart e. now j y e apart))

pub rests : (pass : ℕ) (v : Traffic) → v.sends ≡ true → v.receives ≡ true → Learns InOrder pass v (λ items. (v.sent ≡ v.got ++ items) × (ends_last v.sent ≡ true))
rests pass v a b items views h at = let mine = h.6 pass v at in ((mine.0 a).1 ∙ h.4 ∙ ap (λ l. l ++ items) (sym (mine.1 b).1), ap ends_last (mine.0 a).1 ∙ h.5)
