-- What a deliverer keeps.
use Rattle.std.proofs.Common.{◌≡◌, ◌≢◌, ◌==◌, ◌&&◌, ◌||◌, ◌<◌, ◌-◌, ℕ, zero, suc, Bool, true, false, not, List, [], ◌∷◌, ◌++◌, Option, None, length, set, slice_index_or, sym, refl, ap, ◌∙◌, ⊎_elim, append_assoc, append-nil, subst, arith}
use Rattle.std.specs.List.{All, list_any, slice_get, swap_remove}
use Rattle.std.proofs.lemmas.Bool.{cases_Bool, eqb-true, eqb-false, eq-eqb, and_parts, and_from, and_cases, and_left, and_right, not-false, cond-true, cond-false, both_ways}
use Rattle.std.proofs.lemmas.List.Elements.{All-set, All-take, All-push, All-weaker, All-nil, All-get_or}
use Rattle.std.proofs.lemmas.List.Folds.{list_any-append}
use Rattle.arrival_line.specs.declared.courier.Delivery.{Delivery}
use Rattle.arrival_line.specs.declared.courier.Delivery.TheVariants.{Later, Done, Never}
use Rattle.arrival_line.specs.declared.arrival.Arrival.{Arrival}
use Rattle.source_model.specs.declared.Given.{Given}
use Rattle.source_model.specs.declared.Kind.{Kind}
use Rattle.arrival_line.specs.Made.{made_after}
use Rattle.arrival_line.specs.Strays.{is_wanted, fits, serves, Serves, Delivers}
use Rattle.arrival_line.specs.inside.Inboxes.{sifted, IsInbox}

taken_at : (w : List (Option Kind)) (p : ℕ) (g : Given) → is_wanted (slice_get (set w p None) p) g ≡ false
taken_at [] p g = refl
taken_at (x ∷ w) zero g = refl
taken_at (x ∷ w) (suc p) g = taken_at w p g

other_at : (w : List (Option Kind)) (p q : ℕ) (o : Option Kind) → p ≢ q → slice_get (set w p o) q ≡ slice_get w q
other_at [] p q o n = refl
other_at (x ∷ w) zero zero o n = absurd (n refl)
other_at (x ∷ w) zero (suc q) o n = refl
other_at (x ∷ w) (suc p) zero o n = refl
other_at (x ∷ w) (suc p) (suc q) o n = other_at w p q o (λ e. n (ap suc e))

parts : (f x y : Bool) → (f && not (x || (y || false))) ≡ ((f && not x) && not y)
parts true true y = refl
parts true false true = refl
parts true false false = refl
parts false x y = refl

and-not : (x t : Bool) → t ≡ false → (x && not t) ≡ x
and-not true t h = ap not h
and-not false t h = refl

module _ (w₀ : List (Option Kind)) where
  abbrev same : Arrival → Arrival → Bool
  same b c = (c.product == b.product) && fits w₀ c

  serves-append : (kept : List Arrival) (a b : Arrival) → serves w₀ (kept ++ a ∷ []) b ≡ (serves w₀ kept b && not (same b a))
  serves-append kept a b = ap (λ t. fits w₀ b && not t) (list_any-append (same b) kept (a ∷ [])) ∙ parts (fits w₀ b) (list_any (same b) kept) (same b a)

  module _ (kept : List Arrival) (w : List (Option Kind)) (a b : Arrival) (sifts : (c : Arrival) → fits w c ≡ serves w₀ kept c) where
    at_same : a.product ≡ b.product → fits w a ≡ true → fits (set w a.product None) b ≡ (serves w₀ kept b && not (same b a))
    at_same e ft =
        let fa : fits w₀ a ≡ true = (and_parts (fits w₀ a) _ (sym (sifts a) ∙ ft)).0 in
        let now : fits (set w a.product None) b ≡ false = ap (λ p. is_wanted (slice_get (set w a.product None) p) b.given) (sym e) ∙ taken_at w a.product b.given in
        let is : same b a ≡ true = and_from (a.product == b.product) (fits w₀ a) (eq-eqb a.product b.product e) fa in
        now ∙ sym (and_right (serves w₀ kept b) (not (same b a)) (ap not is))

    at_other : (a.product == b.product) ≡ false → fits (set w a.product None) b ≡ (serves w₀ kept b && not (same b a))
    at_other n =
        ap (λ o. is_wanted o b.given) (other_at w a.product b.product None (eqb-false a.product b.product n)) ∙ sifts b
        ∙ sym (and-not (serves w₀ kept b) (same b a) (and_left (a.product == b.product) (fits w₀ a) n))

    at_stray : fits w a ≡ false → fits w b ≡ (serves w₀ kept b && not (same b a))
    at_stray ff = sifts b ∙ ⊎_elim
        (λ (t : same b a ≡ true).
        let ps = and_parts (a.product == b.product) (fits w₀ a) t in
        let e : a.product ≡ b.product = eqb-true a.product b.product ps.0 in
        let any_a : list_any (same a) kept ≡ true = ⊎_elim (λ (x : fits w₀ a ≡ false). absurd (both_ways (fits w₀ a) x ps.1)) (λ x. not-false (list_any (same a) kept) x) (and_cases (fits w₀ a) (not (list_any (same a) kept)) (sym (sifts a) ∙ ff)) in
        let any_b : list_any (same b) kept ≡ true = ap (λ (p : ℕ). list_any (λ (c : Arrival). (c.product == p) && fits w₀ c) kept) (sym e) ∙ any_a in
        let none : serves w₀ kept b ≡ false = and_right (fits w₀ b) (not (list_any (same b) kept)) (ap not any_b) in
        none ∙ sym (and_left (serves w₀ kept b) (not (same b a)) none))
        (λ (f : same b a ≡ false). sym (and-not (serves w₀ kept b) (same b a) f))
        (cases_Bool (same b a))

    pub sifts_on : fits (sifted w a) b ≡ serves w₀ (kept ++ a ∷ []) b
    sifts_on = ⊎_elim
        (λ (ft : fits w a ≡ true). ap (λ l. fits l b) (cond-true (fits w a) (set w a.product None) w ft)
        ∙ ⊎_elim (λ e. at_same (eqb-true a.product b.product e) ft) (λ n. at_other n) (cases_Bool (a.product == b.product)))
        (λ (ff : fits w a ≡ false). ap (λ l. fits l b) (cond-false (fits w a) (set w a.product None) w ff) ∙ at_stray ff)
        (cases_Bool (fits w a))
        ∙ sym (serves-append kept a b)

  pub serves_more : (all rest : List Arrival) (a : Arrival) → Serves w₀ all a → Serves w₀ (all ++ rest) a
  serves_more all rest a h = (h.0, h.1 ++ rest, ap (λ l. l ++ rest) h.2 ∙ append_assoc h.0 (a ∷ h.1) rest, h.3)

  pub serves_last : (all : List Arrival) (a : Arrival) → serves w₀ all a ≡ true → Serves w₀ (all ++ a ∷ []) a
  serves_last all a h = (all, [], refl, h)

  pub delivers_more : (all rest made now : List Arrival) → Delivers w₀ all made now → Delivers w₀ (all ++ rest) made now
  delivers_more all rest made now h = (h.0, h.1, All-weaker (Serves w₀ all) (Serves w₀ (all ++ rest)) (λ x. serves_more all rest x) h.0 h.2)

  pub delivers_one : (all made now : List Arrival) (a : Arrival) → Serves w₀ all a → Delivers w₀ all made now → Delivers w₀ all made (now ++ a ∷ [])
  delivers_one all made now a s h = (h.0 ++ a ∷ [], ap (λ l. l ++ a ∷ []) h.1 ∙ append_assoc made h.0 (a ∷ []), All-push (Serves w₀ all) h.0 a h.2 s)

  pub delivers_none : (all made : List Arrival) → Delivers w₀ all made made
  delivers_none all made = ([], sym (append-nil made), All-nil (Serves w₀ all))

  module _ (made₀ made : List Arrival) (w : List (Option Kind)) (kept pending : List Arrival) (inbox : IsInbox w₀ made₀ made w kept pending) where
    abbrev Now : List Arrival → List (Option Kind) → List Arrival → List Arrival → Type 0
    Now made' w' kept' pending' = IsInbox w₀ made₀ made' w' kept' pending'

    module _ (a : Arrival) (w' : List (Option Kind)) (kept' : List Arrival) (wants : w' ≡ sifted w a) (keeps : kept' ≡ kept ++ a ∷ []) where
      from_parts : (pending' : List Arrival) → IsInbox w₀ made₀ made (sifted w a) (kept ++ a ∷ []) pending' → Now made w' kept' pending'
      from_parts pending' h =
          let P : List (Option Kind) → Type 0 = λ v. Now made v kept' pending' in
          let Q : List Arrival → Type 0 = λ k. Now made (sifted w a) k pending' in
          subst P (sym wants) (subst Q (sym keeps) h)

      waits_still : All (Serves w₀ (kept ++ a ∷ [])) pending
      waits_still = All-weaker (Serves w₀ kept) (Serves w₀ (kept ++ a ∷ [])) (λ x. serves_more kept (a ∷ []) x) pending inbox.waits

      -- an arrival that is a stray
      pub stray_comes : fits w a ≡ false → Now made w' kept' pending
      stray_comes h = from_parts pending (record {
        sifts = λ b. sifts_on kept w a b inbox.sifts;
        waits = waits_still;
        delivers = delivers_more kept (a ∷ []) made₀ made inbox.delivers;
      })

      -- one that is none
      pub other_comes : (pending' : List Arrival) → pending' ≡ pending ++ a ∷ [] → fits w a ≡ true → Now made w' kept' pending'
      other_comes pending' waits' h = from_parts pending' (record {
        sifts = λ b. sifts_on kept w a b inbox.sifts;
        waits = let P : List Arrival → Type 0 = All (Serves w₀ (kept ++ a ∷ [])) in subst P (sym waits') (All-push (Serves w₀ (kept ++ a ∷ [])) pending a waits_still (serves_last kept a (sym (inbox.sifts a) ∙ h)));
        delivers = delivers_more kept (a ∷ []) made₀ made inbox.delivers;
      })

    module _ (i : ℕ) (a : Arrival) (within : i < length pending) (is : a ≡ slice_index_or pending i a) where
      delivers_after : (r : Delivery) → Delivers w₀ kept made₀ (made_after made a r)
      delivers_after Later = inbox.delivers
      delivers_after Done = delivers_one kept made₀ made a (let P : Arrival → Type 0 = Serves w₀ kept in subst P (sym is) (inbox.waits i a within)) inbox.delivers
      delivers_after Never = inbox.delivers

      -- one that waits is tried, and waits on
      pub one_waits : (r : Delivery) (made' : List Arrival) → made' ≡ made_after made a r → Now made' w kept pending
      one_waits r made' tried = record {
        sifts = inbox.sifts;
        waits = inbox.waits;
        delivers = let P : List Arrival → Type 0 = Delivers w₀ kept made₀ in subst P (sym tried) (delivers_after r);
      }

      -- one that waits is tried, and is done or given up
      pub one_leaves : (r : Delivery) (made' pending' : List Arrival) (d : Arrival) → made' ≡ made_after made a r → pending' ≡ swap_remove pending i d → Now made' w kept pending'
      one_leaves r made' pending' d tried left = record {
        sifts = inbox.sifts;
        waits = let P : List Arrival → Type 0 = All (Serves w₀ kept) in
            subst P (sym left) (All-take (Serves w₀ kept) (length pending - 1) _ (All-set (Serves w₀ kept) pending i _ (All-get_or (Serves w₀ kept) pending (length pending - 1) d (omega arith) inbox.waits) inbox.waits));
        delivers = (one_waits r made' tried).delivers;
      }
