-- In a legal history each product waits, and its frame and its claims are those of source order.
use Rattle.std.proofs.Common.{◌≡◌, ℕ, suc, ◌<◌, Bool, true, false, ◌==◌, ◌||◌, if◌then◌else◌, ◌⊎◌, List, [], ◌∷◌, ◌++◌, length, take, Option, Some, None, is_some, IsSome, slice_get, refl, ap, ap₂, sym, ◌∙◌, inl, inr, arith, append-nil, append_assoc, eqb-true, eq-eqb, subst}
use Rattle.std.specs.Option.{unwrap_or}
use Rattle.std.proofs.lemmas.Bool.{or_left, or_cases, both_ways, true≢false, false_from_ne_true}
use Rattle.std.proofs.lemmas.Option.{same_Some, none-some, slice_get_within}
use Rattle.pauli_product.specs.Signed.{Signed}
use Rattle.pauli_product.specs.Pulls.{Turn, half, carry}
use Rattle.pauli_product.specs.Corrections.{turn_if}
use Rattle.source_model.specs.declared.Given.{Given}
use Rattle.source_model.specs.declared.Given.TheVariants as given
use Rattle.source_model.specs.declared.Kind.{Kind}
use Rattle.source_model.specs.declared.Kind.TheVariants as kind
use Rattle.source_model.specs.declared.Static.{Static}
use Rattle.std.proofs.lemmas.List.{take_at}
use Rattle.source_model.specs.SourceRun.{axes}
use Rattle.source_model.specs.Statics.{static_items}
use Rattle.trace_laws.specs.Steps.{Step, commuting, pass}
use Rattle.trace_laws.specs.Runs.{Trace, begun, axis_now, left_by, Flipping, flips_in_order, next, all_carried_out, source_axis, source_flip}
use Rattle.trace_laws.specs.Orders.{stands, Waiting, SwapEqual, others}
use Rattle.trace_laws.proofs.Swapping.{after-push}
use Rattle.trace_laws.proofs.Sorting.{stands-append, waiting_within}
use Rattle.trace_laws.proofs.Flips.{flips_along}
use Rattle.trace_laws.proofs.Ready.{Next, waiting_next, ready_axis, known_axis, known_flip, order_swap_equal}
use Rattle.board_core.specs.declared.Entry.{Entry}
use Rattle.board_core.specs.declared.Entry.TheVariants.{Claim, Deliver, Release, Settle}
use Rattle.board_core.specs.declared.Entry.TheVariants as entry
use Rattle.board_core.specs.History.{History, delivered, claim_place, done_place, known, zero_of}
use Rattle.board_core.specs.Legal.{BoardJob, AxisOf, FlipOf, Ready, IsKind, TakesState, ClaimAllowed, Allowed, Legal}
use Rattle.board_core.specs.Orders.{done_in, done_of, act_of, steps_of, InSourceOrderUpToSwaps}
use Rattle.board_core.specs.View.{claimed_axis, rotation_turns, turns_by, turns_of}
use Rattle.board_core.specs.Laws.{ProductsOfLength, Agrees}
use Rattle.board_core.proofs.SourceOrder.{step_at, axes_of_source, flips_of_source}
use Rattle.board_core.proofs.Places.{done_stands, claimed_place, or_else, claimed-append, delivered-append, done-push, turns-push, delivered_done, some_of, none_of}
use Rattle.board_core.proofs.Tables.{length_steps, steps_of_length, step_with, bare_steps, known_length, known_at, entry_of, steps_commute}

-- a settled product
pub record IsSettled (ss : List Static) (q : ℕ) : Type 0 where
  pub static : Static
  pub first : ℕ
  pub size : ℕ
  pub value : ℕ
  pub stands_there : slice_get ss q ≡ Some static
  pub is_settle : static.kind ≡ kind.Settle first size value

-- a claimed product, behind the done products d
pub record Claimed (steps : List Step) (d : List ℕ) (p : ℕ) (axis : Signed) : Type 0 where
  pub axis_is : source_axis steps p ≡ Some axis
  pub within : p < length steps
  pub waited : (q : ℕ) → q < p → pass commuting steps q p ≡ false → stands q d ≡ true

-- a done product was delivered after a claim, or settled
abbrev pub Done : List Static → History → ℕ → Type 0
Done ss h q = ((x : Given) × (delivered h q ≡ Some x) × IsSome (claimed_axis h q)) ⊎ IsSettled ss q

pub record Sound (j : BoardJob) (gs : List Given) (h : History) (d : List ℕ) : Type 0 where
  pub order : done_of h ≡ d
  pub waits : Waiting (pass commuting (steps_of j.products gs)) (length (steps_of j.products gs)) [] d
  pub turns : turns_of j.products h ≡ (all_carried_out (flips_in_order (steps_of j.products gs)) (steps_of j.products gs) begun d).turns
  pub claims : (p : ℕ) (axis : Signed) → claimed_axis h p ≡ Some axis → Claimed (steps_of j.products gs) d p axis
  pub done : (q : ℕ) → stands q d ≡ true → Done j.products h q

or_none : {A : Type 0} (o : Option A) → or_else o None ≡ o
or_none None = refl
or_none (Some a) = refl

or_some : {A : Type 0} (o o' : Option A) → is_some o ≡ true → is_some (or_else o o') ≡ true
or_some None o' e = absurd (true≢false (sym e))
or_some (Some a) o' e = refl

done_more : (ss : List Static) (h es : History) (q : ℕ) → Done ss h q → Done ss (h ++ es) q
done_more ss h es q (inl x) = inl (x.0, delivered-append h es q ∙ ap (λ o. or_else o (delivered es q)) x.1, ap is_some (claimed-append h es q) ∙ or_some (claimed_axis h q) (claimed_axis es q) x.2)
done_more ss h es q (inr x) = inr x

no_settle : (j : BoardJob) (h : History) (k : Kind) (through state : Option ℕ) (first size value : ℕ) → k ≡ kind.Settle first size value → TakesState j h k through state → ⊥
no_settle j h k through state first size value e t = subst (λ x. TakesState j h x through state) e t

-- a product that may be claimed isn't done
new_claim : {gs : List Given} {j : BoardJob} (h : History) (d : List ℕ) (p : ℕ) (s : Static) (through state : Option ℕ) → Sound j gs h d → slice_get j.products p ≡ Some s → TakesState j h s.kind through state → claim_place h p ≡ None → Done j.products h p → ⊥
new_claim {j = j} h d p s through state inv e t u (inl x) = both_ways (is_some (claim_place h p)) (ap is_some u) (claimed_place h p ∙ x.2)
new_claim {j = j} h d p s through state inv e t u (inr x) =
    no_settle j h s.kind through state x.first x.size x.value (ap (λ (z : Static). z.kind) (same_Some s x.static (sym e ∙ x.stands_there)) ∙ x.is_settle) t

-- the claims behind a new one
pushed : {gs : List Given} {j : BoardJob} (h : History) (d : List ℕ) (p : ℕ) (axis : Signed) (through state : Option ℕ) (cells : List ℕ) (q : ℕ) (b : Signed) → Sound j gs h d → Claimed (steps_of j.products gs) d p axis → (o : Option Signed) → claimed_axis h q ≡ o → or_else o (claimed_axis (Claim p axis through state cells ∷ []) q) ≡ Some b → Claimed (steps_of j.products gs) d q b
pushed h d p axis through state cells q b inv here (Some c) e f = inv.claims q b (e ∙ f)
pushed {gs = gs} {j = j} h d p axis through state cells q b inv here None e f = go (p == q) refl f
  where
    go : (x : Bool) → (p == q) ≡ x → (elim (if x then Some axis else None) [ None ↦ None | Some a ↦ Some a ]) ≡ Some b → Claimed (steps_of j.products gs) d q b
    go true g k = subst (λ r. Claimed (steps_of j.products gs) d r b) (eqb-true p q g) (subst (λ r. Claimed (steps_of j.products gs) d p r) (same_Some axis b k) here)
    go false g k = absurd (none-some b k)

-- what a delivered product leaves
left_turns : (axis : Signed) (k : Kind) (g : Given) (x : Bool) → IsKind k g → left_by axis (act_of k g) x ≡ rotation_turns axis g
left_turns axis kind.Rotation (given.Rotation raw x') x i = refl
left_turns axis kind.Rotation (given.Measure raw) x i = absurd i
left_turns axis kind.Rotation given.Settled x i = absurd i
left_turns axis (kind.Measure bit) (given.Rotation raw x') x i = absurd i
left_turns axis (kind.Measure bit) (given.Measure raw) x i = refl
left_turns axis (kind.Measure bit) given.Settled x i = absurd i
left_turns axis (kind.Settle first size value) g x i = absurd i

next_turns : (flip : Flipping) (steps : List Step) (t : Trace) (p : ℕ) (s : Step) → slice_get steps p ≡ Some s → (next flip steps t p).turns ≡ t.turns ++ left_by (axis_now t s) s.act (flip t p s.act)
unfolding next
next_turns flip steps t p s e = rw e refl

-- claims and done products behind one more done product
claims_more : {steps : List Step} (d : List ℕ) (p q : ℕ) (axis : Signed) → Claimed steps d q axis → Claimed steps (d ++ p ∷ []) q axis
claims_more d p q axis c = record { axis_is = c.axis_is; within = c.within; waited = λ r l f. stands-append r d (p ∷ []) ∙ or_left (stands r d) (p == r || false) (c.waited r l f) }

stands_push : (d : List ℕ) (p q : ℕ) → stands q (d ++ p ∷ []) ≡ true → (stands q d ≡ true) ⊎ (p ≡ q)
stands_push d p q s =
    elim (or_cases (stands q d) (p == q || false) (sym (stands-append q d (p ∷ [])) ∙ s)) [
      | inl x ↦ inl x
      | inr x ↦ elim (or_cases (p == q) false x) [ inl y ↦ inr (eqb-true p q y) | inr y ↦ absurd (true≢false (sym y)) ]
    ]

agrees_front : (gs : List Given) (h es : History) → Agrees gs (h ++ es) → Agrees gs h
agrees_front gs h es a q x e = a q x (delivered-append h es q ∙ ap (λ o. or_else o (delivered es q)) e)

pub at_end : {A : Type 0} (xs : List A) (x : A) (ys : List A) → slice_get (xs ++ x ∷ ys) (length xs) ≡ Some x
at_end [] x ys = refl
at_end (z ∷ xs) x ys = at_end xs x ys

-- the entry that delivers
pub delivered_at : (h : History) (q : ℕ) (x : Given) → delivered h q ≡ Some x → (m : ℕ) × (slice_get h m ≡ Some (Deliver q x))
delivered_at [] q x e = absurd (none-some x e)
delivered_at (Claim p axis through state cells ∷ h) q x e = let r = delivered_at h q x e in (suc r.0, r.1)
delivered_at (Deliver p g ∷ h) q x e = go (λ k. delivered_at h q x k) (p == q) refl e
  where
    go : (delivered h q ≡ Some x → (m : ℕ) × (slice_get h m ≡ Some (Deliver q x))) → (b : Bool) → (p == q) ≡ b → (elim (if b then Some g else None) [ None ↦ delivered h q | Some y ↦ Some y ]) ≡ Some x → (m : ℕ) × (slice_get (Deliver p g ∷ h) m ≡ Some (Deliver q x))
    go more true f k = (0, ap₂ (λ r y. Some (Deliver r y)) (eqb-true p q f) (same_Some g x k))
    go more false f k = let r = more k in (suc r.0, r.1)
delivered_at (Release p ∷ h) q x e = let r = delivered_at h q x e in (suc r.0, r.1)
delivered_at (entry.Step f ∷ h) q x e = let r = delivered_at h q x e in (suc r.0, r.1)
delivered_at (Settle p flip ∷ h) q x e = let r = delivered_at h q x e in (suc r.0, r.1)

-- the table of the known outcomes is one that has what a legal history delivers
pub known_agrees : (j : BoardJob) (h : History) → Legal j h → Agrees (known j.products h) h
known_agrees j h legal q x e =
    let at = delivered_at h q x e in
    let a = legal at.0 (Deliver q x) at.1 in
    known_at j.products h q a.2.0 a.2.1 ∙ ap (λ o. Some (unwrap_or o (zero_of a.2.0.kind))) e

module _ (n : ℕ) (j : BoardJob) (gs : List Given) (long : ProductsOfLength n j.products) (full : length gs ≡ length j.products) where
  next_of_ready : (h : History) (d : List ℕ) (p : ℕ) → Sound j gs h d → Ready j h p → p < length j.products → stands p d ≡ false → Next (steps_of j.products gs) d p
  next_of_ready h d p inv ready l once = record {
    within = rw (length_steps j.products gs full) l;
    once = once;
    waited = λ q k f.
        let s = entry_of j.products q (omega arith) in
        let t = entry_of j.products p l in
        let apart = sym (steps_commute j.products gs q p s.0 t.0 full s.1 t.1) ∙ f in
        ap (stands q) (sym inv.order) ∙ sym (done_stands h q) ∙ ready q s.0 t.0 k s.1 t.1 apart;
  }

  -- where a product is done, the table and the known outcomes give one step
  agree_done : (h : History) (d : List ℕ) → Sound j gs h d → Agrees gs h → (q : ℕ) → stands q d ≡ true → slice_get (steps_of j.products gs) q ≡ slice_get (steps_of j.products (known j.products h)) q
  agree_done h d inv agrees q s =
      let l : q < length j.products = rw (length_steps j.products gs full) at (waiting_within (pass commuting (steps_of j.products gs)) (length (steps_of j.products gs)) [] d q inv.waits s) in
      let t = entry_of j.products q l in
      elim (inv.done q s) [
        | inl x ↦
            step_with j.products gs q t.0 x.0 t.1 (agrees q x.0 x.1)
            ∙ sym (step_with j.products (known j.products h) q t.0 x.0 t.1 (known_at j.products h q t.0 t.1 ∙ ap (λ o. Some (unwrap_or o (zero_of t.0.kind))) x.1))
        | inr x ↦
            let y = entry_of gs q (omega arith) in
            let k : t.0.kind ≡ kind.Settle x.first x.size x.value = ap (λ (z : Static). z.kind) (same_Some t.0 x.static (sym t.1 ∙ x.stands_there)) ∙ x.is_settle in
            step_with j.products gs q t.0 y.0 t.1 y.1
            ∙ ap (λ z. Some (step_at t.0.axis z y.0)) k
            ∙ ap (λ z. Some (step_at t.0.axis z (unwrap_or (delivered h q) (zero_of t.0.kind)))) (sym k)
            ∙ sym (step_with j.products (known j.products h) q t.0 (unwrap_or (delivered h q) (zero_of t.0.kind)) t.1 (known_at j.products h q t.0 t.1))
      ]

  axis_of_next : (h : History) (d : List ℕ) (p : ℕ) (axis : Signed) (s : Static) → Sound j gs h d → Agrees gs h → Next (steps_of j.products gs) d p → slice_get j.products p ≡ Some s → AxisOf j h p axis → source_axis (steps_of j.products gs) p ≡ Some axis
  axis_of_next h d p axis s inv agrees k e a =
      let y = entry_of gs p (let l = slice_get_within j.products p s e in omega arith) in
      let z = unwrap_or (delivered h p) (zero_of s.kind) in
      known_axis n (steps_of j.products gs) (steps_of j.products (known j.products h)) d p (step_at s.axis s.kind y.0) (step_at s.axis s.kind z)
      (steps_of_length n j.products gs long) (steps_of_length n j.products (known j.products h) long)
      (bare_steps j.products gs (known j.products h) full (known_length j.products h))
      (agree_done h d inv agrees) inv.waits k
      (step_with j.products gs p s y.0 e y.1)
      (step_with j.products (known j.products h) p s z e (known_at j.products h p s e))
      ∙ sym (axes_of_source j.products (known j.products h) p s (known_length j.products h) e)
      ∙ a

  flip_of_next : (h : History) (d : List ℕ) (p : ℕ) (flip : Bool) → Sound j gs h d → Agrees gs h → Next (steps_of j.products gs) d p → FlipOf j h p flip → flip ≡ source_flip (steps_of j.products gs) p
  flip_of_next h d p flip inv agrees k f =
      let s = f.0 in
      let y = entry_of gs p (let l = slice_get_within j.products p s f.4 in omega arith) in
      let z = unwrap_or (delivered h p) (zero_of s.kind) in
      let st = step_at s.axis (kind.Settle f.1 f.2 f.3) y.0 in
      sym f.6
      ∙ flips_of_source j.products (known j.products h) p s f.1 f.2 f.3 (known_length j.products h) f.4 f.5
      ∙ sym (known_flip n (steps_of j.products gs) (steps_of j.products (known j.products h)) d p st
      (steps_of_length n j.products gs long) (steps_of_length n j.products (known j.products h) long)
      (bare_steps j.products gs (known j.products h) full (known_length j.products h))
      (agree_done h d inv agrees) inv.waits k
      (step_with j.products gs p s y.0 f.4 y.1 ∙ ap (λ w. Some (step_at s.axis w y.0)) f.5)
      (step_with j.products (known j.products h) p s z f.4 (known_at j.products h p s f.4) ∙ ap (λ w. Some (step_at s.axis w z)) f.5))

  -- ---- one more entry
  quiet_sound : (h : History) (d : List ℕ) (e : Entry) → Sound j gs h d → done_in e ≡ [] → ((t : List Turn) → turns_by j.products h t e ≡ []) → ((q : ℕ) → claimed_axis (e ∷ []) q ≡ None) → Sound j gs (h ++ e ∷ []) d
  quiet_sound h d e inv a b c = record {
    order = done-push h e ∙ ap (λ x. done_of h ++ x) a ∙ append-nil (done_of h) ∙ inv.order;
    waits = inv.waits;
    turns = turns-push j.products h e ∙ ap (λ x. turns_of j.products h ++ x) (b (turns_of j.products h)) ∙ append-nil (turns_of j.products h) ∙ inv.turns;
    claims = λ q axis f. inv.claims q axis (sym (or_none (claimed_axis h q)) ∙ ap (or_else (claimed_axis h q)) (sym (c q)) ∙ sym (claimed-append h (e ∷ []) q) ∙ f);
    done = λ q s. done_more j.products h (e ∷ []) q (inv.done q s);
  }

  claim_sound : (h : History) (d : List ℕ) (p : ℕ) (axis : Signed) (through state : Option ℕ) (cells : List ℕ) → Sound j gs h d → Agrees gs h → ClaimAllowed j h p axis through state cells → Sound j gs (h ++ Claim p axis through state cells ∷ []) d
  claim_sound h d p axis through state cells inv agrees a =
      let e = Claim p axis through state cells in
      let s = a.product.0 in
      let fresh : stands p d ≡ false = false_from_ne_true (stands p d) (λ x. new_claim h d p s through state inv a.product.1 a.product.2 a.unclaimed (inv.done p x)) in
      let k = next_of_ready h d p inv a.ready (slice_get_within j.products p s a.product.1) fresh in
      let here : Claimed (steps_of j.products gs) d p axis = record { axis_is = axis_of_next h d p axis s inv agrees k a.product.1 a.axis_of; within = k.within; waited = k.waited } in
      record {
        order = done-push h e ∙ append-nil (done_of h) ∙ inv.order;
        waits = inv.waits;
        turns = turns-push j.products h e ∙ append-nil (turns_of j.products h) ∙ inv.turns;
        claims = λ q b f. pushed h d p axis through state cells q b inv here (claimed_axis h q) refl (sym (claimed-append h (e ∷ []) q) ∙ f);
        done = λ q x. done_more j.products h (e ∷ []) q (inv.done q x);
      }

  not_done : (h : History) (d : List ℕ) (p : ℕ) → Sound j gs h d → done_place h p ≡ None → stands p d ≡ false
  not_done h d p inv e = ap (stands p) (sym inv.order) ∙ sym (done_stands h p) ∙ ap is_some e

  deliver_sound : (h : History) (d : List ℕ) (p : ℕ) (g : Given) → Sound j gs h d → Agrees gs (h ++ Deliver p g ∷ []) → Allowed j h (Deliver p g) → Sound j gs (h ++ Deliver p g ∷ []) (d ++ p ∷ [])
  deliver_sound h d p g inv agrees a =
      let e = Deliver p g in
      let s = a.2.0 in
      let claim = some_of (claimed_axis h p) (sym (claimed_place h p) ∙ a.0) in
      let c = inv.claims p claim.0 claim.1 in
      let once = not_done h d p inv a.1 in
      let k : Next (steps_of j.products gs) d p = record { within = c.within; once = once; waited = c.waited } in
      let before : delivered h p ≡ None = none_of (delivered h p) (false_from_ne_true (is_some (delivered h p)) (λ x. both_ways (stands p d) once (ap (stands p) (sym inv.order) ∙ delivered_done h p x))) in
      let itself : delivered (e ∷ []) p ≡ Some g = ap (λ (b : Bool). elim (if b then Some g else None) [ None ↦ None | Some y ↦ Some y ]) (eq-eqb p p refl) in
      let now : delivered (h ++ e ∷ []) p ≡ Some g = delivered-append h (e ∷ []) p ∙ ap (λ o. or_else o (delivered (e ∷ []) p)) before ∙ itself in
      let st = step_at s.axis s.kind g in
      let there : slice_get (steps_of j.products gs) p ≡ Some st = step_with j.products gs p s g a.2.1 (agrees p g now) in
      let t = all_carried_out (flips_in_order (steps_of j.products gs)) (steps_of j.products gs) begun d in
      let same : axis_now t st ≡ claim.0 = same_Some (axis_now t st) claim.0 (sym (ready_axis n (steps_of j.products gs) d p st (steps_of_length n j.products gs long) inv.waits k there) ∙ c.axis_is) in
      let x = flips_in_order (steps_of j.products gs) t p st.act in
      record {
        order = done-push h e ∙ ap (λ w. w ++ p ∷ []) inv.order;
        waits = waiting_next (steps_of j.products gs) d p inv.waits k;
        turns =
            turns-push j.products h e
            ∙ ap₂ (λ u (o : Option Signed). u ++ (elim o [ None ↦ [] | Some axis ↦ rotation_turns axis g ])) inv.turns claim.1
            ∙ ap (λ u. t.turns ++ u) (sym (left_turns claim.0 s.kind g x a.2.2))
            ∙ ap (λ y. t.turns ++ left_by y st.act x) (sym same)
            ∙ sym (ap (λ (y : Trace). y.turns) (after-push (flips_in_order (steps_of j.products gs)) (steps_of j.products gs) d p) ∙ next_turns (flips_in_order (steps_of j.products gs)) (steps_of j.products gs) t p st there);
        claims = λ q axis f. claims_more d p q axis (inv.claims q axis (sym (or_none (claimed_axis h q)) ∙ sym (claimed-append h (e ∷ []) q) ∙ f));
        done = λ q f. elim (stands_push d p q f) [
          | inl y ↦ done_more j.products h (e ∷ []) q (inv.done q y)
          | inr y ↦ subst (Done j.products (h ++ e ∷ [])) y (inl (g, now, ap is_some (claimed-append h (e ∷ []) p) ∙ or_some (claimed_axis h p) None (ap is_some claim.1)))
        ];
      }

  settle_sound : (h : History) (d : List ℕ) (p : ℕ) (flip : Bool) → Sound j gs h d → Agrees gs h → Allowed j h (Settle p flip) → Sound j gs (h ++ Settle p flip ∷ []) (d ++ p ∷ [])
  settle_sound h d p flip inv agrees a =
      let e = Settle p flip in
      let f = a.2 in
      let s = f.0 in
      let once = not_done h d p inv a.0 in
      let l = slice_get_within j.products p s f.4 in
      let k = next_of_ready h d p inv a.1 l once in
      let y = entry_of gs p (omega arith) in
      let st = step_at s.axis (kind.Settle f.1 f.2 f.3) y.0 in
      let there : slice_get (steps_of j.products gs) p ≡ Some st = step_with j.products gs p s y.0 f.4 y.1 ∙ ap (λ w. Some (step_at s.axis w y.0)) f.5 in
      let t = all_carried_out (flips_in_order (steps_of j.products gs)) (steps_of j.products gs) begun d in
      let same : flip ≡ flips_in_order (steps_of j.products gs) t p st.act =
      flip_of_next h d p flip inv agrees k f ∙ sym (flips_along n (steps_of j.products gs) d p [] st (steps_of_length n j.products gs long) (waiting_next (steps_of j.products gs) d p inv.waits k) there) in
      record {
        order = done-push h e ∙ ap (λ w. w ++ p ∷ []) inv.order;
        waits = waiting_next (steps_of j.products gs) d p inv.waits k;
        turns =
            turns-push j.products h e
            ∙ ap₂ (λ u (o : Option Static). u ++ (elim o [ None ↦ [] | Some z ↦ turn_if flip (carry u z.axis) half ])) inv.turns f.4
            ∙ ap (λ x. t.turns ++ turn_if x (carry t.turns s.axis) half) same
            ∙ sym (ap (λ (z : Trace). z.turns) (after-push (flips_in_order (steps_of j.products gs)) (steps_of j.products gs) d p) ∙ next_turns (flips_in_order (steps_of j.products gs)) (steps_of j.products gs) t p st there);
        claims = λ q axis g. claims_more d p q axis (inv.claims q axis (sym (or_none (claimed_axis h q)) ∙ sym (claimed-append h (e ∷ []) q) ∙ g));
        done = λ q g. elim (stands_push d p q g) [
          | inl z ↦ done_more j.products h (e ∷ []) q (inv.done q z)
          | inr z ↦ inr (subst (IsSettled j.products) z (record { static = s; first = f.1; size = f.2; value = f.3; stands_there = f.4; is_settle = f.5 }))
        ];
      }

  one_more : (h : History) (d : List ℕ) (e : Entry) → Sound j gs h d → Agrees gs (h ++ e ∷ []) → Allowed j h e → (d' : List ℕ) × Sound j gs (h ++ e ∷ []) d'
  one_more h d (Claim p axis through state cells) inv agrees a = (d, claim_sound h d p axis through state cells inv (agrees_front gs h (Claim p axis through state cells ∷ []) agrees) a)
  one_more h d (Deliver p g) inv agrees a = (d ++ p ∷ [], deliver_sound h d p g inv agrees a)
  one_more h d (Release p) inv agrees a = (d, quiet_sound h d (Release p) inv refl (λ t. refl) (λ q. refl))
  one_more h d (entry.Step f) inv agrees a = (d, quiet_sound h d (entry.Step f) inv refl (λ t. refl) (λ q. refl))
  one_more h d (Settle p flip) inv agrees a = (d ++ p ∷ [], settle_sound h d p flip inv (agrees_front gs h (Settle p flip ∷ []) agrees) a)

  sound_on : (h es : History) (d : List ℕ) → ((m : ℕ) (e : Entry) → slice_get (h ++ es) m ≡ Some e → Allowed j (take m (h ++ es)) e) → Agrees gs (h ++ es) → Sound j gs h d → (d' : List ℕ) × Sound j gs (h ++ es) d'
  sound_on h [] d legal agrees inv = (d, rw (append-nil h) inv)
  sound_on h (e ∷ es) d legal agrees inv =
      let more : (h ++ e ∷ []) ++ es ≡ h ++ e ∷ es = append_assoc h (e ∷ []) es in
      let here : Allowed j h e = rw (take_at h (e ∷ es) (length h) refl) at (legal (length h) e (at_end h e es)) in
      let next = one_more h d e inv (agrees_front gs (h ++ e ∷ []) es (rw more agrees)) here in
      rw more at (sound_on (h ++ e ∷ []) es next.0 (rw more legal) (rw more agrees) next.1)

  -- a legal history is sound for each table that has what it delivers
  pub legal_sound : (h : History) → Legal j h → Agrees gs h → Sound j gs h (done_of h)
  legal_sound h legal agrees =
      let start : Sound j gs [] [] = record { order = refl; waits = tt; turns = refl; claims = λ p axis f. absurd (none-some axis f); done = λ q s. absurd (true≢false (sym s)) } in
      let r = sound_on [] h [] legal agrees start in
      subst (Sound j gs h) (sym r.1.order) r.1

  -- the done products and then the others are in source order but for exchanges of commuting neighbours
  pub legal_order : (h : History) → Legal j h → Agrees gs h → InSourceOrderUpToSwaps j.products gs h
  legal_order h legal agrees =
      let e = order_swap_equal (steps_of j.products gs) (done_of h) (legal_sound h legal agrees).waits in
      subst (λ m. SwapEqual (steps_of j.products gs) (done_of h ++ others m (done_of h))) (length_steps j.products gs full) e

  -- each claim has the axis of the source run with the table
  pub legal_claims : (h : History) (p : ℕ) (axis : Signed) → Legal j h → Agrees gs h → claimed_axis h p ≡ Some axis → slice_get (axes (static_items j.products) gs) p ≡ Some axis
  legal_claims h p axis legal agrees f =
      let c = (legal_sound h legal agrees).claims p axis f in
      let s = entry_of j.products p (rw (length_steps j.products gs full) at c.within) in
      axes_of_source j.products gs p s.0 full s.1 ∙ c.axis_is

  -- the axis now of a product that is neither claimed nor done and waits on none is that of the source run
  pub legal_look : (h : History) (p : ℕ) (s : Static) → Legal j h → Agrees gs h → slice_get j.products p ≡ Some s → done_place h p ≡ None → Ready j h p → slice_get (axes (static_items j.products) gs) p ≡ Some (carry (turns_of j.products h) s.axis)
  legal_look h p s legal agrees e once ready =
      let inv = legal_sound h legal agrees in
      let l = slice_get_within j.products p s e in
      let y = entry_of gs p (omega arith) in
      let k = next_of_ready h (done_of h) p inv ready l (not_done h (done_of h) p inv once) in
      axes_of_source j.products gs p s full e
      ∙ ready_axis n (steps_of j.products gs) (done_of h) p (step_at s.axis s.kind y.0) (steps_of_length n j.products gs long) inv.waits k (step_with j.products gs p s y.0 e y.1)
      ∙ ap (λ t. Some (carry t s.axis)) (sym inv.turns)

  -- from its claim to its delivery it stays so, whatever is delivered or settled between
  pub legal_held : (h : History) (p : ℕ) (axis : Signed) (s : Static) → Legal j h → Agrees gs h → slice_get j.products p ≡ Some s → claimed_axis h p ≡ Some axis → done_place h p ≡ None → carry (turns_of j.products h) s.axis ≡ axis
  legal_held h p axis s legal agrees e f once =
      let inv = legal_sound h legal agrees in
      let c = inv.claims p axis f in
      let y = entry_of gs p (let l = slice_get_within j.products p s e in omega arith) in
      let k : Next (steps_of j.products gs) (done_of h) p = record { within = c.within; once = not_done h (done_of h) p inv once; waited = c.waited } in
      same_Some (carry (turns_of j.products h) s.axis) axis
      (ap (λ t. Some (carry t s.axis)) inv.turns
      ∙ sym (ready_axis n (steps_of j.products gs) (done_of h) p (step_at s.axis s.kind y.0) (steps_of_length n j.products gs long) inv.waits k (step_with j.products gs p s y.0 e y.1))
      ∙ c.axis_is)
