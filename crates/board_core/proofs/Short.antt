-- A legal history within the limits has fewer than 2^20 entries.
use Rattle.std.proofs.Common.{◌≡◌, ◌≢◌, ℕ, zero, suc, ◌+◌, ◌*◌, ◌/◌, ◌%◌, ◌^◌, ◌<◌, ◌≤◌, ◌⊎◌, inl, inr, Bool, true, false, ◌==◌, ◌&&◌, ◌||◌, if◌then◌else◌, List, [], ◌∷◌, ◌++◌, length, flat_map, Option, Some, None, is_some, refl, ap, ap₂, sym, ◌∙◌, arith, append-nil, append_assoc, length-append, subst, eqb-true}
use Rattle.std.proofs.lemmas.Bool.{cases_Bool, and_parts, true≢false}
use Rattle.std.proofs.lemmas.Option.{slice_get_within}
use Rattle.std.proofs.lemmas.List.{take_at}
use Rattle.std.proofs.lemmas.Grind.{flat_map-append}
use Rattle.trace_laws.specs.Orders.{upto, others, stands, Exchanged, same, swapped, Waiting}
use Rattle.trace_laws.proofs.Sorting.{sorted_out, waiting-push}
use Rattle.magic_pool.specs.declared.Fail.{Fail}
use Rattle.magic_pool.specs.Recount.{step_count, is_made, makers_of, ready_of, ready_from}
use Rattle.board_core.specs.declared.Entry.{Entry}
use Rattle.board_core.specs.declared.Entry.TheVariants.{Claim, Deliver, Release, Settle}
use Rattle.board_core.specs.declared.Entry.TheVariants as entry
use Rattle.board_core.specs.History.{History, is_claim_of, is_release_of, claim_place, done_place, release_place, delivered, steps_in, steps, states_in, taken_states}
use Rattle.board_core.specs.Legal.{BoardJob, Allowed, Legal}
use Rattle.board_core.specs.Orders.{done_in, done_of}
use Rattle.board_core.specs.Limits.{WithinLimits, AreFactories}
use Rattle.board_core.proofs.Places.{place_cons, done_stands, some_of}
use Rattle.board_core.proofs.LegalOrder.{at_end, delivered_at}
use Rattle.board_core.proofs.Going.{legal_take}
use Rattle.board_core.proofs.Counting.{sum_to, sum_to_le, tally, steps_tally, Below, Below-append, all_tallied, runs_made, listed_few, makers_tally, push_tally, makers-push, ready_step, ready_taken, takens_few, all_ready, one_if}

-- ---- products, each at most once
abbrev claim_in : Entry → List ℕ
claim_in (Claim p axis through state cells) = p ∷ []
claim_in (Deliver p g) = []
claim_in (Release p) = []
claim_in (entry.Step f) = []
claim_in (Settle p flip) = []

abbrev release_in : Entry → List ℕ
release_in (Claim p axis through state cells) = []
release_in (Deliver p g) = []
release_in (Release p) = p ∷ []
release_in (entry.Step f) = []
release_in (Settle p flip) = []

abbrev claims_of : History → List ℕ
claims_of h = flat_map claim_in h

abbrev releases_of : History → List ℕ
releases_of h = flat_map release_in h

claims_stand : (h : History) (p : ℕ) → is_some (claim_place h p) ≡ stands p (claims_of h)
claims_stand [] p = refl
claims_stand (e ∷ es) p = place_cons (is_claim_of p) e es ∙ ap (λ b. is_claim_of p e || b) (claims_stand es p) ∙ go e
  where
    go : (e : Entry) → (is_claim_of p e || stands p (claims_of es)) ≡ stands p (claim_in e ++ claims_of es)
    go (Claim q axis port state cells) = refl
    go (Deliver q g) = refl
    go (Release q) = refl
    go (entry.Step f) = refl
    go (Settle q flip) = refl

releases_stand : (h : History) (p : ℕ) → is_some (release_place h p) ≡ stands p (releases_of h)
releases_stand [] p = refl
releases_stand (e ∷ es) p = place_cons (is_release_of p) e es ∙ ap (λ b. is_release_of p e || b) (releases_stand es p) ∙ go e
  where
    go : (e : Entry) → (is_release_of p e || stands p (releases_of es)) ≡ stands p (release_in e ++ releases_of es)
    go (Claim q axis port state cells) = refl
    go (Deliver q g) = refl
    go (Release q) = refl
    go (entry.Step f) = refl
    go (Settle q flip) = refl

-- distinct numbers below n
abbrev Once : ℕ → List ℕ → Type 0
Once n w = Waiting (λ i k. true) n [] w

one_more : (n : ℕ) (w : List ℕ) (p : ℕ) → Once n w → p < n → stands p w ≡ false → Once n (w ++ p ∷ [])
one_more n w p h l s = waiting-push (λ i k. true) n [] w p h l refl s (λ q m f. absurd (true≢false f))

exchanged_length : (start w : List ℕ) → Exchanged (λ i k. true) start w → length w ≡ length start
exchanged_length start w same = refl
exchanged_length start w (swapped u v i k m x) =
    let ih = exchanged_length start (u ++ i ∷ k ∷ v) x in
    let a = length-append u (k ∷ i ∷ v) in
    let b = length-append u (i ∷ k ∷ v) in
    omega arith

upto_length : (n : ℕ) → length (upto n) ≡ n
upto_length zero = refl
upto_length (suc n) = let ih = upto_length n in let a = length-append (upto n) (n ∷ []) in omega arith

once_few : (n : ℕ) (w : List ℕ) → Once n w → length w ≤ n
once_few n w h =
    let e = exchanged_length (upto n) (w ++ others n w) (sorted_out (λ i k. true) n w h) in
    let u = upto_length n in
    let a = length-append w (others n w) in
    omega arith

-- ---- what one entry more adds
each_adds : (h : History) → length h ≡ length (claims_of h) + length (done_of h) + length (releases_of h) + length (steps h)
each_adds [] = refl
each_adds (Claim p axis through state cells ∷ es) = let ih = each_adds es in omega arith
each_adds (Deliver p g ∷ es) = let ih = each_adds es in omega arith
each_adds (Release p ∷ es) = let ih = each_adds es in omega arith
each_adds (entry.Step f ∷ es) = let ih = each_adds es in omega arith
each_adds (Settle p flip ∷ es) = let ih = each_adds es in omega arith

pushed : (into : Entry → List ℕ) (h : History) (e : Entry) → flat_map into (h ++ e ∷ []) ≡ flat_map into h ++ into e
pushed into h e = flat_map-append into h (e ∷ []) ∙ ap (λ x. flat_map into h ++ x) (append-nil (into e))

record Counted (j : BoardJob) (h : History) : Type 0 where
  claims : Once (length j.products) (claims_of h)
  dones : Once (length j.products) (done_of h)
  releases : Once (length j.products) (releases_of h)
  few_taken : length (taken_states h) ≤ length (claims_of h)

none_stands : (o : Option ℕ) (b : Bool) → is_some o ≡ b → o ≡ None → b ≡ false
none_stands o b e n = sym e ∙ ap is_some n

claims_on : (j : BoardJob) (h : History) (e : Entry) → Allowed j h e → Once (length j.products) (claims_of h) → Once (length j.products) (claims_of h ++ claim_in e)
claims_on j h (Claim p axis through state cells) a once =
    one_more (length j.products) (claims_of h) p once (slice_get_within j.products p a.product.0 a.product.1) (none_stands (claim_place h p) (stands p (claims_of h)) (claims_stand h p) a.unclaimed)
claims_on j h (Deliver p g) a once = rw (append-nil (claims_of h)) once
claims_on j h (Release p) a once = rw (append-nil (claims_of h)) once
claims_on j h (entry.Step f) a once = rw (append-nil (claims_of h)) once
claims_on j h (Settle p flip) a once = rw (append-nil (claims_of h)) once

dones_on : (j : BoardJob) (h : History) (e : Entry) → Allowed j h e → Once (length j.products) (done_of h) → Once (length j.products) (done_of h ++ done_in e)
dones_on j h (Claim p axis through state cells) a once = rw (append-nil (done_of h)) once
dones_on j h (Deliver p g) a once =
    one_more (length j.products) (done_of h) p once (slice_get_within j.products p a.2.0 a.2.1) (none_stands (done_place h p) (stands p (done_of h)) (done_stands h p) a.1)
dones_on j h (Release p) a once = rw (append-nil (done_of h)) once
dones_on j h (entry.Step f) a once = rw (append-nil (done_of h)) once
dones_on j h (Settle p flip) a once =
    one_more (length j.products) (done_of h) p once (slice_get_within j.products p a.2.0 a.2.4) (none_stands (done_place h p) (stands p (done_of h)) (done_stands h p) a.0)

releases_on : (j : BoardJob) (h : History) (e : Entry) → Legal j h → Allowed j h e → Once (length j.products) (releases_of h) → Once (length j.products) (releases_of h ++ release_in e)
releases_on j h (Claim p axis through state cells) legal a once = rw (append-nil (releases_of h)) once
releases_on j h (Deliver p g) legal a once = rw (append-nil (releases_of h)) once
releases_on j h (Release p) legal a once =
    let g = some_of (delivered h p) a.0 in
    let d = delivered_at h p g.0 g.1 in
    let b = legal d.0 (Deliver p g.0) d.1 in
    one_more (length j.products) (releases_of h) p once (slice_get_within j.products p b.2.0 b.2.1) (none_stands (release_place h p) (stands p (releases_of h)) (releases_stand h p) a.1)
releases_on j h (entry.Step f) legal a once = rw (append-nil (releases_of h)) once
releases_on j h (Settle p flip) legal a once = rw (append-nil (releases_of h)) once

-- a claim takes at most one state
taken_on : (h : History) (e : Entry) → length (taken_states h) ≤ length (claims_of h) → length (taken_states h ++ states_in e) ≤ length (claims_of h ++ claim_in e)
taken_on h (Claim p axis through None cells) l = let a = length-append (taken_states h) [] in let b = length-append (claims_of h) (p ∷ []) in omega arith
taken_on h (Claim p axis through (Some s) cells) l = let a = length-append (taken_states h) (s ∷ []) in let b = length-append (claims_of h) (p ∷ []) in omega arith
taken_on h (Deliver p g) l = let a = length-append (taken_states h) [] in let b = length-append (claims_of h) [] in omega arith
taken_on h (Release p) l = let a = length-append (taken_states h) [] in let b = length-append (claims_of h) [] in omega arith
taken_on h (entry.Step f) l = let a = length-append (taken_states h) [] in let b = length-append (claims_of h) [] in omega arith
taken_on h (Settle p flip) l = let a = length-append (taken_states h) [] in let b = length-append (claims_of h) [] in omega arith

-- ---- stocks
record Stocked (fails : List Fail) (st taken : List ℕ) : Type 0 where
  stepped : Below 16 st
  makers : Below 16 (makers_of fails st)
  stock : (f : ℕ) → length (ready_of fails st taken f) ≤ 16
  running : (f : ℕ) → step_count f st % 11 ≢ 0 → length (ready_of fails st taken f) < 16

stocked_taken : (fails : List Fail) (st taken : List ℕ) (s : ℕ) → Stocked fails st taken → Stocked fails st (taken ++ s ∷ [])
stocked_taken fails st taken s x = record {
  stepped = x.stepped;
  makers = x.makers;
  stock = λ f. let less = ready_taken 0 (makers_of fails st) taken s f in let old = x.stock f in omega arith;
  running = λ f r. let less = ready_taken 0 (makers_of fails st) taken s f in let old = x.running f r in omega arith;
}

made_ends : (fails : List Fail) (f n : ℕ) → is_made fails f n ≡ true → n % 11 ≡ 0
made_ends fails f n e = eqb-true (n % 11) 0 ((and_parts _ _ e).0)

-- a step of g: what f has ready
ready_after : (fails : List Fail) (st taken : List ℕ) (g f store : ℕ) → store ≤ 16 → (step_count g st % 11 ≢ 0) ⊎ (length (ready_of fails st taken g) < store) → Stocked fails st taken →
    (length (ready_of fails (st ++ g ∷ []) taken f) ≤ 16) × (step_count f (st ++ g ∷ []) % 11 ≢ 0 → length (ready_of fails (st ++ g ∷ []) taken f) < 16)
ready_after fails st taken g f store few may x = elim (cases_Bool (g == f)) [ inl e ↦ same_one (eqb-true g f e) e | inr e ↦ other_one e ]
  where
    other_one : (g == f) ≡ false → (length (ready_of fails (st ++ g ∷ []) taken f) ≤ 16) × (step_count f (st ++ g ∷ []) % 11 ≢ 0 → length (ready_of fails (st ++ g ∷ []) taken f) < 16)
    other_one e =
        let more = ready_step fails st taken g f in
        let none : one_if (g == f && is_made fails g (step_count g st + 1)) ≡ 0 = ap (λ b. one_if (b && is_made fails g (step_count g st + 1))) e in
        let old = x.stock f in
        let count : step_count f (st ++ g ∷ []) ≡ step_count f st + 0 = push_tally f g st ∙ ap (λ b. step_count f st + one_if b) e in
        (omega arith, λ r. let was = x.running f (λ z. r (let y : step_count f (st ++ g ∷ []) % 11 ≡ 0 = omega arith in y)) in omega arith)

    same_one : g ≡ f → (g == f) ≡ true → (length (ready_of fails (st ++ g ∷ []) taken f) ≤ 16) × (step_count f (st ++ g ∷ []) % 11 ≢ 0 → length (ready_of fails (st ++ g ∷ []) taken f) < 16)
    same_one s e =
        let more = ready_step fails st taken g f in
        let here : one_if (g == f && is_made fails g (step_count g st + 1)) ≡ one_if (is_made fails f (step_count f st + 1)) = ap₂ (λ b y. one_if (b && is_made fails y (step_count y st + 1))) e s in
        let count : step_count f (st ++ g ∷ []) ≡ step_count f st + 1 = push_tally f g st ∙ ap (λ b. step_count f st + one_if b) e in
        let mine : (step_count f st % 11 ≢ 0) ⊎ (length (ready_of fails st taken f) < store) = subst (λ y. (step_count y st % 11 ≢ 0) ⊎ (length (ready_of fails st taken y) < store)) s may in
        elim (cases_Bool (is_made fails f (step_count f st + 1))) [
          | inl m ↦
              let ends = made_ends fails f (step_count f st + 1) m in
              let one : one_if (is_made fails f (step_count f st + 1)) ≡ 1 = ap one_if m in
              let was = x.running f (λ z. absurd (omega arith)) in
              (omega arith, λ r. absurd (r (omega arith)))
          | inr m ↦
              let none : one_if (is_made fails f (step_count f st + 1)) ≡ 0 = ap one_if m in
              let old = x.stock f in
              (omega arith, λ r. elim mine [ inl z ↦ (let was = x.running f z in omega arith) | inr l ↦ omega arith ])
        ]

stocked_step : (fails : List Fail) (st taken : List ℕ) (g store : ℕ) → g < 16 → store ≤ 16 → (step_count g st % 11 ≢ 0) ⊎ (length (ready_of fails st taken g) < store) → Stocked fails st taken → Stocked fails (st ++ g ∷ []) taken
stocked_step fails st taken g store low few may x = record {
  stepped = Below-append 16 st (g ∷ []) x.stepped (low, tt);
  makers = rw (makers-push fails st g) (Below-append 16 (makers_of fails st) (if is_made fails g (step_count g st + 1) then g ∷ [] else []) x.makers (one (is_made fails g (step_count g st + 1))));
  stock = λ f. (ready_after fails st taken g f store few may x).0;
  running = λ f. (ready_after fails st taken g f store few may x).1;
}
  where
    one : (b : Bool) → Below 16 (if b then g ∷ [] else [])
    one true = (low, tt)
    one false = tt

stocked_on : (j : BoardJob) (h : History) (e : Entry) → AreFactories j.grid → Allowed j h e → Stocked j.fails (steps h) (taken_states h) → Stocked j.fails (steps h ++ steps_in e) (taken_states h ++ states_in e)
stocked_on j h (Claim p axis through None cells) ranges a x = rw (append-nil (steps h), append-nil (taken_states h)) x
stocked_on j h (Claim p axis through (Some s) cells) ranges a x = rw (append-nil (steps h)) (stocked_taken j.fails (steps h) (taken_states h) s x)
stocked_on j h (Deliver p g) ranges a x = rw (append-nil (steps h), append-nil (taken_states h)) x
stocked_on j h (Release p) ranges a x = rw (append-nil (steps h), append-nil (taken_states h)) x
stocked_on j h (entry.Step f) ranges a x =
    let within = ranges f a.0 a.1 in
    rw (append-nil (taken_states h)) (stocked_step j.fails (steps h) (taken_states h) f a.0 within.0 within.2 a.2 x)
stocked_on j h (Settle p flip) ranges a x = rw (append-nil (steps h), append-nil (taken_states h)) x

counted_on : (j : BoardJob) (h : History) (e : Entry) → Legal j h → Allowed j h e → Counted j h → Counted j (h ++ e ∷ [])
counted_on j h e legal a x = record {
  claims = rw (pushed claim_in h e) (claims_on j h e a x.claims);
  dones = rw (pushed done_in h e) (dones_on j h e a x.dones);
  releases = rw (pushed release_in h e) (releases_on j h e legal a x.releases);
  few_taken = rw (pushed states_in h e, pushed claim_in h e) (taken_on h e x.few_taken);
}

both_on : (j : BoardJob) (h es : History) → AreFactories j.grid → Legal j (h ++ es) → Counted j h → Stocked j.fails (steps h) (taken_states h) → Counted j (h ++ es) × Stocked j.fails (steps (h ++ es)) (taken_states (h ++ es))
both_on j h [] ranges legal x y = rw (append-nil h) (x, y)
both_on j h (e ∷ es) ranges legal x y =
    let more : (h ++ e ∷ []) ++ es ≡ h ++ e ∷ es = append_assoc h (e ∷ []) es in
    let here : Allowed j h e = rw (take_at h (e ∷ es) (length h) refl) at (legal (length h) e (at_end h e es)) in
    let before : Legal j h = rw (take_at h (e ∷ es) (length h) refl) at (legal_take j (h ++ e ∷ es) (length h) legal) in
    rw more at (both_on j (h ++ e ∷ []) es ranges (rw more legal) (counted_on j h e before here x) (rw (pushed steps_in h e, pushed states_in h e) (stocked_on j h e ranges here y)))

-- ---- the bound
sixteens : (n : ℕ) → sum_to n (λ f. 16) ≡ 16 * n
sixteens zero = refl
sixteens (suc n) = let ih = sixteens n in omega arith

elevens : (n : ℕ) (u : ℕ → ℕ) → sum_to n (λ f. 11 * u f + 45066) ≡ 11 * sum_to n u + 45066 * n
elevens zero u = refl
elevens (suc n) u = let ih = elevens n u in omega arith

-- a factory's steps, by its states and the listed runs
few_steps : (fails : List Fail) (st : List ℕ) (f : ℕ) → length fails ≤ 4096 → tally f st ≤ 11 * tally f (makers_of fails st) + 45066
few_steps fails st f few =
    let n = step_count f st in
    let same = steps_tally f st in
    let runs = runs_made fails f n in
    let lost = listed_few fails f (n / 11) in
    let mine = makers_tally fails f [] st in
    omega arith

steps_few : (j : BoardJob) (h : History) → WithinLimits j → Counted j h → Stocked j.fails (steps h) (taken_states h) → length (steps h) ≤ 904096
steps_few j h limits x y =
    let st = steps h in
    let makers = makers_of j.fails (steps h) in
    let all = all_tallied 16 (steps h) y.stepped in
    let each = sum_to_le 16 (λ f. tally f (steps h)) (λ f. 11 * tally f (makers_of j.fails (steps h)) + 45066) (λ f l. few_steps j.fails (steps h) f limits.few_fails) in
    let added = elevens 16 (λ f. tally f (makers_of j.fails (steps h))) in
    let made_all = all_tallied 16 (makers_of j.fails (steps h)) y.makers in
    let used = all_ready 16 0 (makers_of j.fails (steps h)) (taken_states h) y.makers in
    let ready_all = sum_to_le 16 (λ f. length (ready_from 0 (makers_of j.fails (steps h)) (taken_states h) f)) (λ f. 16) (λ f l. y.stock f) in
    let stores = sixteens 16 in
    let taken = takens_few (taken_states h) 0 (length (makers_of j.fails (steps h))) in
    let claimed = once_few (length j.products) (claims_of h) x.claims in
    let few = x.few_taken in
    let products = limits.few_products in
    omega arith

pub legal_short : (j : BoardJob) (h : History) → WithinLimits j → AreFactories j.grid → Legal j h → length h < 2 ^ 20
legal_short j h limits ranges legal =
    let start : Counted j [] = record { claims = tt; dones = tt; releases = tt; few_taken = omega arith } in
    let begin : Stocked j.fails [] [] = record { stepped = tt; makers = tt; stock = λ f. omega arith; running = λ f r. omega arith } in
    let r = both_on j [] h ranges legal start begin in
    let a = each_adds h in
    let b = once_few (length j.products) (claims_of h) r.0.claims in
    let c = once_few (length j.products) (done_of h) r.0.dones in
    let d = once_few (length j.products) (releases_of h) r.0.releases in
    let e = steps_few j h limits r.0 r.1 in
    let products = limits.few_products in
    omega arith
