-- A stored pool beside the histories that it is one behind.
use Rattle.std.proofs.Common.{◌≡◌, ◌⊎◌, ℕ, zero, suc, ◌+◌, ◌-◌, ◌/◌, ◌%◌, ◌<◌, ◌≤◌, Bool, true, false, ◌==◌, ◌&&◌, not, nat_le, if◌then◌else◌, List, [], ◌∷◌, ◌++◌, length, drop, get_or, set, map, Option, Some, None, Ok, Err, refl, ap, sym, ◌∙◌, arith, append-nil, inl, inr, eq-eqb, ne_eqb, eqb-true, get_or-set_same, get_or-set_other}
use Rattle.std.specs.List.{All}
use Rattle.std.specs.Option.{IfNone, option_to_list}
use Rattle.std.proofs.Math.Seq.{map-set_same}
use Rattle.std.proofs.lemmas.Bool.{cases_Bool, eqb-false}
use Rattle.std.proofs.lemmas.List.{get_or-map, length-map, map-set}
use Rattle.std.proofs.lemmas.List.Sums.{count_by-le-length}
use Rattle.magic_pool.specs.declared.Maker.{Maker}
use Rattle.magic_pool.specs.declared.Fail.{Fail}
use Rattle.magic_pool.specs.declared.Stepped.{Stepped}
use Rattle.magic_pool.specs.declared.Stepped.TheVariants.{Running, Made, Failed}
use Rattle.magic_pool.specs.declared.StepRefused.TheVariants.{NoFactory, Stocked}
use Rattle.magic_pool.specs.declared.factory.Factory.{Factory}
use Rattle.magic_pool.specs.Recount.{step_count, is_listed, is_made, makers_of, ready_of, first_of_list}
use Rattle.magic_pool.specs.Pooled.{Pooled, Recounts, HasFewer, store_of, outcome_of, answer_of, step_answer}
use Rattle.magic_pool.specs.Makers.{IsMaker}
use Rattle.magic_pool.specs.inside.Factories.{Serves, IsFresh, AllServe, outcome_here, ready_after}
use Rattle.magic_pool.proofs.Readiness.{steps_push, made_more, made_le, ready_push, ready_take, ready_take_other, taken_other, first_made}

-- a pool by what it stores
abbrev pub pooled : List Maker → List Fail → ℕ → List Factory → Pooled
pooled makers fails made xs = record { makers = makers; fails = fails; made = made; steps = map (λ x. x.steps) xs; ready = map (λ x. x.ready.items) xs }

-- ---- look-ups
looked_set : {A : Type 0} (l : List A) (f g : ℕ) (v d w : A) → f < length l → (f ≡ g → v ≡ w) → ((f ≡ g → ⊥) → get_or l g d ≡ w) → get_or (set l f v) g d ≡ w
looked_set l f g v d w inside here other = elim (cases_Bool (f == g)) [
  | inl same ↦
      let e : f ≡ g = eqb-true f g same in
      rw (← e) (get_or-set_same l f v d inside) ∙ here e
  | inr apart ↦
      let ne : f ≡ g → ⊥ = eqb-false f g apart in
      get_or-set_other l f g v d (λ e. ne (sym e)) ∙ other ne
]

-- ---- makers
store_of-absent : (makers : List Maker) (f : ℕ) → All IsMaker makers → 16 ≤ f → store_of makers f ≡ 0
store_of-absent [] f each beyond = refl
store_of-absent (m ∷ ms) f each beyond =
    let below : m.factory < 16 = (each 0 m (omega arith)).0 in
    rw (ne_eqb m.factory f (omega arith)) (store_of-absent ms f (λ k d inside. each (suc k) d (omega arith)) beyond)

-- ---- a factory's step
outcome_served : (makers : List Maker) (fails : List Fail) (f : ℕ) (x : Factory) (n made : ℕ) → Serves makers fails f x → outcome_here x.failing.items n made ≡ outcome_of fails f n made
outcome_served makers fails f x n made s = rw (s.listed (n / 11 - 1)) refl

ready_served : (makers : List Maker) (fails : List Fail) (f : ℕ) (x : Factory) (n made : ℕ) (l : List ℕ) → Serves makers fails f x → ready_after x.failing.items n made l ≡ (if is_made fails f n then l ++ made ∷ [] else l)
ready_served makers fails f x n made l s = rw (s.listed (n / 11 - 1)) refl

-- ---- what a step answers
answer_none : (fails : List Fail) (f store before made ready : ℕ) → store ≡ 0 → answer_of fails f store before made ready ≡ Err NoFactory
answer_none fails f store before made ready none = rw (eq-eqb store 0 none) refl

answer_stocked : (fails : List Fail) (f store before made ready : ℕ) → (store ≡ 0 → ⊥) → (before % 11 == 0 && nat_le store ready) ≡ true → answer_of fails f store before made ready ≡ Err (Stocked ready)
answer_stocked fails f store before made ready some full = rw (ne_eqb store 0 some, full) refl

answer_stepped : (fails : List Fail) (f store before made ready : ℕ) → (store ≡ 0 → ⊥) → (before % 11 == 0 && nat_le store ready) ≡ false → answer_of fails f store before made ready ≡ Ok (outcome_of fails f (before + 1) made)
answer_stepped fails f store before made ready some go_on = rw (ne_eqb store 0 some, go_on) refl

-- ---- histories
none_left : (l : List ℕ) → None ≡ first_of_list l → drop 1 l ≡ l
none_left [] e = refl
none_left (x ∷ l) e = cc

recounts_step : (p q : Pooled) (steps taken : List ℕ) (f : ℕ) → Recounts p steps taken → q.fails ≡ p.fails
    → q.made ≡ p.made + (if is_made p.fails f (step_count f steps + 1) then 1 else 0)
    → ((g : ℕ) → get_or q.steps g 0 ≡ get_or p.steps g 0 + (if f == g then 1 else 0))
    → ((g : ℕ) → get_or q.ready g [] ≡ (if is_made p.fails f (step_count f steps + 1) && f == g then get_or p.ready g [] ++ p.made ∷ [] else get_or p.ready g []))
    → Recounts q (steps ++ f ∷ []) taken
recounts_step p q steps taken f r fails made counts readies = record {
  made = rw (fails, made, r.made) (sym (made_more p.fails steps f));
  counts = λ g. rw (counts g, r.counts g) (sym (steps_push g f steps));
  ready = λ g. rw (readies g, r.ready g, r.made, fails) (sym (ready_push p.fails steps taken f g (r.untaken (length (makers_of p.fails steps)) (omega (arith, r.made)))));
  untaken = λ s beyond. r.untaken s (omega (arith, made));
}

recounts_take : (p q : Pooled) (steps taken : List ℕ) (f : ℕ) (o : Option ℕ) → Recounts p steps taken → q.fails ≡ p.fails → q.made ≡ p.made
    → ((g : ℕ) → get_or q.steps g 0 ≡ get_or p.steps g 0)
    → o ≡ first_of_list (get_or p.ready f [])
    → get_or q.ready f [] ≡ drop 1 (get_or p.ready f [])
    → ((g : ℕ) → (f ≡ g → ⊥) → get_or q.ready g [] ≡ get_or p.ready g [])
    → Recounts q steps (taken ++ option_to_list o)
recounts_take p q steps taken f None r fails made counts least here other = record {
  made = made ∙ r.made ∙ ap (λ l. length (makers_of l steps)) (sym fails);
  counts = λ g. counts g ∙ r.counts g;
  ready = λ g. rw (append-nil taken, fails) (elim (cases_Bool (f == g)) [
    | inl same ↦ let e : f ≡ g = eqb-true f g same in rw (← e) (here ∙ none_left (get_or p.ready f []) least ∙ r.ready f)
    | inr apart ↦ other g (eqb-false f g apart) ∙ r.ready g
  ]);
  untaken = λ s beyond. rw (append-nil taken) (r.untaken s (omega (arith, made)));
}
recounts_take p q steps taken f (Some s) r fails made counts least here other =
    let first : first_of_list (ready_of p.fails steps taken f) ≡ Some s = ap first_of_list (sym (r.ready f)) ∙ sym least in
    record {
      made = made ∙ r.made ∙ ap (λ l. length (makers_of l steps)) (sym fails);
      counts = λ g. counts g ∙ r.counts g;
      ready = λ g. rw fails (elim (cases_Bool (f == g)) [
        | inl same ↦
            let e : f ≡ g = eqb-true f g same in
            rw (← e) (here ∙ ap (drop 1) (r.ready f) ∙ sym (ready_take 0 (makers_of p.fails steps) taken f s first))
        | inr apart ↦
            let ne : f ≡ g → ⊥ = eqb-false f g apart in
            other g ne ∙ r.ready g ∙ sym (ready_take_other 0 (makers_of p.fails steps) taken f g s ne first)
      ]);
      untaken = λ t beyond.
          let below : s < length (makers_of p.fails steps) = omega (arith, first_made 0 (makers_of p.fails steps) taken f s first) in
          taken_other taken s t (λ e. absurd (omega (arith, r.made, made))) ∙ r.untaken t (omega (arith, made));
    }

-- ---- a stored pool
pub served : (makers : List Maker) (fails : List Fail) (xs : List Factory) (f : ℕ) (x : Factory) → AllServe makers fails xs → f < 16 → x ≡ get_or xs f x → Serves makers fails f x
served makers fails xs f x all below is = rw is (all.each f x below)

counted_at : (xs : List Factory) (f : ℕ) (x : Factory) → f < length xs → x ≡ get_or xs f x → get_or (map (λ y. y.steps) xs) f 0 ≡ x.steps
counted_at xs f x inside is = get_or-map (λ y. y.steps) xs f x 0 inside ∙ ap (λ y. y.steps) (sym is)

ready_at : (xs : List Factory) (f : ℕ) (x : Factory) → f < length xs → x ≡ get_or xs f x → get_or (map (λ y. y.ready.items) xs) f [] ≡ x.ready.items
ready_at xs f x inside is = get_or-map (λ y. y.ready.items) xs f x [] inside ∙ ap (λ y. y.ready.items) (sym is)

answer_same : (fails : List Fail) (f a a' b b' m m' r r' : ℕ) → a ≡ a' → b ≡ b' → m ≡ m' → r ≡ r' → answer_of fails f a b m r ≡ answer_of fails f a' b' m' r'
answer_same fails f a a' b b' m m' r r' p q s t = rw (p, q, s, t) refl

answered : (makers : List Maker) (fails : List Fail) (made : ℕ) (xs : List Factory) (f : ℕ) (x : Factory) (steps taken : List ℕ) → AllServe makers fails xs → f < 16 → x ≡ get_or xs f x
    → Recounts (pooled makers fails made xs) steps taken → step_answer makers fails steps taken f ≡ answer_of fails f x.store x.steps made (length x.ready.items)
answered makers fails made xs f x steps taken all below is r =
    let inside : f < length xs = omega (arith, all.count) in
    answer_same fails f (store_of makers f) x.store (step_count f steps) x.steps (length (makers_of fails steps)) made (length (ready_of fails steps taken f)) (length x.ready.items)
    (sym (served makers fails xs f x all below is).store)
    (sym (r.counts f) ∙ counted_at xs f x inside is)
    (sym r.made)
    (ap length (sym (r.ready f) ∙ ready_at xs f x inside is))

pub answers_absent : (makers : List Maker) (fails : List Fail) (f : ℕ) (steps taken : List ℕ) → All IsMaker makers → 16 ≤ f → Err NoFactory ≡ step_answer makers fails steps taken f
answers_absent makers fails f steps taken each beyond =
    sym (answer_none fails f (store_of makers f) (step_count f steps) (length (makers_of fails steps)) (length (ready_of fails steps taken f)) (store_of-absent makers f each beyond))

pub answers_stocked : (makers : List Maker) (fails : List Fail) (made : ℕ) (xs : List Factory) (f ready : ℕ) (x : Factory) (steps taken : List ℕ) → AllServe makers fails xs → f < 16 → x ≡ get_or xs f x
    → Recounts (pooled makers fails made xs) steps taken → (x.store ≡ 0 → ⊥) → (x.steps % 11 == 0 && nat_le x.store (length x.ready.items)) ≡ true → ready ≡ length x.ready.items
    → Err (Stocked ready) ≡ step_answer makers fails steps taken f
answers_stocked makers fails made xs f ready x steps taken all below is r some full count =
    ap (λ k. Err (Stocked k)) count
    ∙ sym (answered makers fails made xs f x steps taken all below is r ∙ answer_stocked fails f x.store x.steps made (length x.ready.items) some full)

pub answers_stepped : (makers : List Maker) (fails : List Fail) (made : ℕ) (xs : List Factory) (f : ℕ) (x : Factory) (o : Stepped) (steps taken : List ℕ) → AllServe makers fails xs → f < 16 → x ≡ get_or xs f x
    → Recounts (pooled makers fails made xs) steps taken → (x.store ≡ 0 → ⊥) → (x.steps % 11 == 0 && nat_le x.store (length x.ready.items)) ≡ false → o ≡ outcome_here x.failing.items (x.steps + 1) made
    → Ok o ≡ step_answer makers fails steps taken f
answers_stepped makers fails made xs f x o steps taken all below is r some go_on outcome =
    ap Ok (outcome ∙ outcome_served makers fails f x (x.steps + 1) made (served makers fails xs f x all below is))
    ∙ sym (answered makers fails made xs f x steps taken all below is r ∙ answer_stepped fails f x.store x.steps made (length x.ready.items) some go_on)

-- whether a step has made a state
outcome_tells : (a b : Bool) (run made : ℕ) (o : Stepped) → o ≡ (if a then (if b then Failed run else Made made) else Running)
    → (((a && not b) ≡ true) × (o ≡ Made made)) ⊎ (((a && not b) ≡ false) × ((state : ℕ) → o ≡ Made state → ⊥))
outcome_tells true true run made o e = inr (refl, λ state is. (cc))
outcome_tells true false run made o e = inl (refl, e)
outcome_tells false b run made o e = inr (refl, λ state is. (cc))

pub made_one : (makers : List Maker) (fails : List Fail) (f : ℕ) (x : Factory) (n made state : ℕ) (o : Stepped) → Serves makers fails f x → o ≡ outcome_here x.failing.items n made → o ≡ Made state
    → made + 1 ≡ made + (if is_made fails f n then 1 else 0)
made_one makers fails f x n made state o s outcome is =
    elim (outcome_tells (n % 11 == 0) (is_listed fails f (n / 11 - 1)) (n / 11 - 1) made o (outcome ∙ outcome_served makers fails f x n made s)) [
      | inl one ↦ rw one.0 refl
      | inr none ↦ absurd (none.1 state is)
    ]

pub made_none : (makers : List Maker) (fails : List Fail) (f : ℕ) (x : Factory) (n made : ℕ) (o : Stepped) → Serves makers fails f x → o ≡ outcome_here x.failing.items n made → ((state : ℕ) → o ≡ Made state → ⊥)
    → made ≡ made + (if is_made fails f n then 1 else 0)
made_none makers fails f x n made o s outcome not_made =
    elim (outcome_tells (n % 11 == 0) (is_listed fails f (n / 11 - 1)) (n / 11 - 1) made o (outcome ∙ outcome_served makers fails f x n made s)) [
      | inl one ↦ absurd (not_made made one.1)
      | inr none ↦ rw none.0 (omega arith)
    ]

pub few_steps : (makers : List Maker) (fails : List Fail) (made : ℕ) (xs : List Factory) (f most : ℕ) (x : Factory) → AllServe makers fails xs → f < 16 → x ≡ get_or xs f x
    → HasFewer (pooled makers fails made xs) most → x.steps < most
few_steps makers fails made xs f most x all below is few =
    let inside : f < length xs = omega (arith, all.count) in
    let here : x.steps ≡ step_count f few.0 = sym (counted_at xs f x inside is) ∙ few.2.counts f in
    omega (arith, few.3, count_by-le-length (λ g. g == f) few.0)

pub few_made : (makers : List Maker) (fails : List Fail) (made : ℕ) (xs : List Factory) (most : ℕ) → HasFewer (pooled makers fails made xs) most → made < most
few_made makers fails made xs most few =
    let here : made ≡ length (makers_of fails few.0) = few.2.made in
    omega (arith, few.3, made_le fails few.0)

-- ---- a new pool
pub recounts_new : (makers : List Maker) (fails : List Fail) (xs : List Factory) → ((f : ℕ) (d : Factory) → f < length xs → IsFresh (get_or xs f d)) → Recounts (pooled makers fails 0 xs) [] []
recounts_new makers fails xs fresh = record {
  made = refl;
  counts = λ f. no_steps xs f fresh;
  ready = λ f. none_ready xs f fresh;
  untaken = λ s beyond. refl;
}
  where
    no_steps : (xs : List Factory) (f : ℕ) → ((f : ℕ) (d : Factory) → f < length xs → IsFresh (get_or xs f d)) → get_or (map (λ x. x.steps) xs) f 0 ≡ 0
    no_steps [] f fresh = refl
    no_steps (x ∷ xs) zero fresh = (fresh 0 x (omega arith)).steps
    no_steps (x ∷ xs) (suc f) fresh = no_steps xs f (λ g d inside. fresh (suc g) d (omega arith))

    none_ready : (xs : List Factory) (f : ℕ) → ((f : ℕ) (d : Factory) → f < length xs → IsFresh (get_or xs f d)) → get_or (map (λ x. x.ready.items) xs) f [] ≡ []
    none_ready [] f fresh = refl
    none_ready (x ∷ xs) zero fresh = (fresh 0 x (omega arith)).ready
    none_ready (x ∷ xs) (suc f) fresh = none_ready xs f (λ g d inside. fresh (suc g) d (omega arith))

-- ---- a pool after a step, or after a take
pub stepped_on : (makers : List Maker) (fails : List Fail) (made more : ℕ) (xs : List Factory) (f : ℕ) (x y : Factory) (steps taken : List ℕ) → AllServe makers fails xs → f < 16 → x ≡ get_or xs f x
    → Recounts (pooled makers fails made xs) steps taken → more ≡ made + (if is_made fails f (x.steps + 1) then 1 else 0)
    → y.steps ≡ x.steps + 1 → y.ready.items ≡ ready_after x.failing.items (x.steps + 1) made x.ready.items
    → Recounts (pooled makers fails more (set xs f y)) (steps ++ f ∷ []) taken
stepped_on makers fails made more xs f x y steps taken all below is r made_is counts readies =
    let inside : f < length xs = omega (arith, all.count) in
    let before : x.steps ≡ step_count f steps = sym (counted_at xs f x inside is) ∙ r.counts f in
    recounts_step (pooled makers fails made xs) (pooled makers fails more (set xs f y)) steps taken f r refl
    (rw (← before) made_is)
    (λ g. rw (map-set (λ z. z.steps) xs f y) (looked_set (map (λ z. z.steps) xs) f g y.steps 0 (get_or (map (λ z. z.steps) xs) g 0 + (if f == g then 1 else 0))
    (omega (arith, length-map xs (λ z. z.steps)))
    (λ e. rw (eq-eqb f g e, ← e, counted_at xs f x inside is) counts)
    (λ ne. rw (ne_eqb f g ne) (omega arith))))
    (λ g. rw (map-set (λ z. z.ready.items) xs f y, ← before) (looked_set (map (λ z. z.ready.items) xs) f g y.ready.items []
    (if is_made fails f (x.steps + 1) && f == g then get_or (map (λ z. z.ready.items) xs) g [] ++ made ∷ [] else get_or (map (λ z. z.ready.items) xs) g [])
    (omega (arith, length-map xs (λ z. z.ready.items)))
    (λ e. rw (eq-eqb f g e, ← e, ready_at xs f x inside is) (readies ∙ ready_served makers fails f x (x.steps + 1) made x.ready.items (served makers fails xs f x all below is) ∙ with_true (is_made fails f (x.steps + 1)) (x.ready.items ++ made ∷ []) x.ready.items))
    (λ ne. rw (ne_eqb f g ne) (with_false (is_made fails f (x.steps + 1)) (get_or (map (λ z. z.ready.items) xs) g [] ++ made ∷ []) (get_or (map (λ z. z.ready.items) xs) g [])))))
  where
    with_true : (b : Bool) (l m : List ℕ) → (if b then l else m) ≡ (if b && true then l else m)
    with_true true l m = refl
    with_true false l m = refl

    with_false : (b : Bool) (l m : List ℕ) → m ≡ (if b && false then l else m)
    with_false true l m = refl
    with_false false l m = refl

pub taken_on : (makers : List Maker) (fails : List Fail) (made : ℕ) (xs : List Factory) (f : ℕ) (x y : Factory) (o : Option ℕ) (steps taken : List ℕ) → f < length xs → x ≡ get_or xs f x
    → Recounts (pooled makers fails made xs) steps taken → o ≡ first_of_list x.ready.items → y.ready.items ≡ drop 1 x.ready.items → y.steps ≡ x.steps
    → Recounts (pooled makers fails made (set xs f y)) steps (taken ++ option_to_list o)
taken_on makers fails made xs f x y o steps taken inside is r least readies counts =
    recounts_take (pooled makers fails made xs) (pooled makers fails made (set xs f y)) steps taken f o r refl refl
    (λ g. rw (map-set_same (λ z. z.steps) xs f y x (counts ∙ ap (λ z. z.steps) is)) refl)
    (least ∙ ap first_of_list (sym (ready_at xs f x inside is)))
    (rw (map-set (λ z. z.ready.items) xs f y) (get_or-set_same (map (λ z. z.ready.items) xs) f y.ready.items [] (omega (arith, length-map xs (λ z. z.ready.items)))) ∙ readies ∙ ap (drop 1) (sym (ready_at xs f x inside is)))
    (λ g ne. rw (map-set (λ z. z.ready.items) xs f y) (get_or-set_other (map (λ z. z.ready.items) xs) f g y.ready.items [] (λ e. ne (sym e))))

-- a take of none leaves the pool as it is
pub taken_none : (makers : List Maker) (fails : List Fail) (made : ℕ) (xs : List Factory) (f : ℕ) (x y : Factory) (o : Option ℕ) → x ≡ get_or xs f x
    → o ≡ first_of_list x.ready.items → y.ready.items ≡ drop 1 x.ready.items → y.steps ≡ x.steps → IfNone o (pooled makers fails made (set xs f y) ≡ pooled makers fails made xs)
taken_none makers fails made xs f x y None is none readies counts =
    rw (map-set_same (λ z. z.steps) xs f y x (counts ∙ ap (λ z. z.steps) is), map-set_same (λ z. z.ready.items) xs f y x (readies ∙ none_left x.ready.items none ∙ ap (λ z. z.ready.items) is)) refl
taken_none makers fails made xs f x y (Some s) is least readies counts = tt
