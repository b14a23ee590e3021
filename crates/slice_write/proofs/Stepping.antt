-- The tables behind one step more of a factory.
use Rattle.std.proofs.Common.{◌≡◌, ℕ, ◌+◌, ◌-◌, ◌/◌, ◌%◌, ◌^◌, ◌<◌, ◌≤◌, max, Bool, true, false, ◌==◌, ◌&&◌, not, List, [], ◌∷◌, ◌++◌, length, get_or, set, map, refl, ap, sym, ◌∙◌, subst, arith, inl, inr, append-nil, length-append, eq-eqb, ne_eqb, eqb-true, get_or-set_same, get_or-set_other, length-set}
use Rattle.std.specs.Prelude.{nat_lt, if◌then◌else◌}
use Rattle.std.specs.List.{list_any}
use Rattle.std.specs.List.Sorted.{IsNonDecreasing}
use Rattle.std.proofs.lemmas.Bool.{cases_Bool, cases_lt, eqb-false, lt-ltb, le-ltb}
use Rattle.std.proofs.lemmas.List.{length_push, length-map, get_or_past, get_or_append_left, get_or_push}
use Rattle.std.proofs.lemmas.List.Sums.{count_by-le-length}
use Rattle.magic_pool.specs.Recount.{step_count}
use Rattle.magic_pool.proofs.Readiness.{steps_push}
use Rattle.board_core.specs.declared.Entry.TheVariants.{Step}
use Rattle.board_core.specs.History.{steps, is_claim_of}
use Rattle.board_core.specs.Legal.{BoardJob}
use Rattle.slice_write.specs.declared.placed.Placed.{Placed}
use Rattle.slice_write.specs.declared.factory.Factory.{Factory}
use Rattle.slice_write.specs.declared.ledger.Ledger.{Ledger}
use Rattle.slice_write.specs.Slices.{Sliced, greatest, greatest_of, is_step_of, is_claim_with, holds_cell, clashes_with, entries_of, made_in, made_at, states_made_by, room_made, store_in, slice_of}
use Rattle.slice_write.specs.inside.Numbers.{room_of}
use Rattle.slice_write.specs.inside.Clashes.{PlacedAre, greatest_clash}
use Rattle.slice_write.specs.inside.Factories.{FactoryIs, Steps, makes, step_of, IsReady}
use Rattle.slice_write.specs.inside.Tables.{Keeps, NotesStep}
use Rattle.slice_write.proofs.Greatest.{greatest_more, greatest_skip, greatest_le}
use Rattle.slice_write.proofs.Making.{entries_more, steps_more, steps_few, made_step, made_at_step, own_step, more_made}
use Rattle.slice_write.proofs.Keeping.{bound_more}

-- one number more, or none
table_step : (made : List ℕ) (m n s v : ℕ) (b : Bool) → length made ≡ m → get_or made s 0 ≡ v
    → get_or (if b then made ++ n ∷ [] else made) s 0 ≡ (if nat_lt s m then v else (if nat_lt s (m + (if b then 1 else 0)) then n else 0))
table_step made m n s v true long is = elim (cases_lt s m) [
  | inl below ↦ rw (lt-ltb s m below) (get_or_append_left made (n ∷ []) 0 s (omega (arith, long)) ∙ is)
  | inr past ↦ elim (cases_lt m s) [
    | inl beyond ↦ rw (le-ltb s m past, le-ltb s (m + 1) (omega arith)) (get_or_past (made ++ n ∷ []) s 0 (omega (arith, long, length_push made n)))
    | inr here ↦
        let e : length made ≡ s = omega (arith, long) in
        rw (le-ltb s m past, lt-ltb s (m + 1) (omega arith)) (get_or_push made n 0 s e)
  ]
]
table_step made m n s v false long is = elim (cases_lt s m) [
  | inl below ↦ rw (lt-ltb s m below) is
  | inr past ↦ rw (le-ltb s m past, le-ltb s (m + 0) (omega arith)) (get_or_past made s 0 (omega (arith, long)))
]

taken_step : (taken : List ℕ) (s : ℕ) (b : Bool) → get_or (if b then taken ++ 0 ∷ [] else taken) s 0 ≡ get_or taken s 0
taken_step taken s false = refl
taken_step taken s true = elim (cases_lt s (length taken)) [
  | inl below ↦ get_or_append_left taken (0 ∷ []) 0 s below
  | inr past ↦ sym (get_or_past taken s 0 past ∙ sym (elim (cases_lt (length taken) s) [
    | inl beyond ↦ get_or_past (taken ++ 0 ∷ []) s 0 (omega (arith, length_push taken 0))
    | inr here ↦ (let e : length taken ≡ s = omega arith in get_or_push taken 0 0 s e)
  ]))
]

long_step : (made : List ℕ) (n : ℕ) (b : Bool) → length (if b then made ++ n ∷ [] else made) ≡ length made + (if b then 1 else 0)
long_step made n true = length_push made n
long_step made n false = omega arith

-- whether the next step makes a state
makes_is : (j : BoardJob) (done : List Sliced) (f : ℕ) (x : Factory) → FactoryIs j done f x → makes x ≡ more_made j.fails (entries_of done) f
makes_is j done f x is =
    ap (λ n. n % 11 == 0 && not (list_any (λ r. r == n / 11 - 1) x.failing.items)) (ap (λ n. n + 1) is.steps)
    ∙ ap (λ b. (step_count f (steps (entries_of done)) + 1) % 11 == 0 && not b) (is.runs.listed ((step_count f (steps (entries_of done)) + 1) / 11 - 1))

steps_now : (done : List Sliced) (f n : ℕ) → steps (entries_of (done ++ (Step f, n) ∷ [])) ≡ steps (entries_of done) ++ f ∷ []
steps_now done f n = ap steps (entries_more done (Step f) n) ∙ steps_more (entries_of done) (Step f)

made_now : (j : BoardJob) (done : List Sliced) (f n : ℕ) → length (made_in j.fails (entries_of done ++ Step f ∷ [])) ≡ length (made_in j.fails (entries_of done)) + (if more_made j.fails (entries_of done) f then 1 else 0)
made_now j done f n = ap length (made_step j.fails (entries_of done) f) ∙ length-append (made_in j.fails (entries_of done)) _ ∙ go (more_made j.fails (entries_of done) f)
  where
    go : (b : Bool) → length (made_in j.fails (entries_of done)) + length (if b then f ∷ [] else []) ≡ length (made_in j.fails (entries_of done)) + (if b then 1 else 0)
    go true = refl
    go false = refl

-- the factory that steps
factory_here : (j : BoardJob) (done : List Sliced) (f n : ℕ) (x y : Factory) → FactoryIs j done f x → Steps x y n (length (made_in j.fails (entries_of done))) → greatest_of (is_step_of f) done ≤ n
    → FactoryIs j (done ++ (Step f, n) ∷ []) f y
factory_here j done f n x y is steps_on above = record {
  steps = steps_on.steps ∙ ap (λ m. m + 1) is.steps ∙ sym (ap (step_count f) (steps_now done f n) ∙ steps_push f f (steps (entries_of done)) ∙ ap (λ b. step_count f (steps (entries_of done)) + (if b then 1 else 0)) (eq-eqb f f refl));
  last = steps_on.last ∙ sym (greatest_more (is_step_of f) done (Step f) n ∙ ap (λ b. max (greatest_of (is_step_of f) done) (if b then n else 0)) (eq-eqb f f refl) ∙ omega arith);
  own = steps_on.own ∙ ap (λ b. if b then x.own.items ++ length (made_in j.fails (entries_of done)) ∷ [] else x.own.items) (makes_is j done f x is)
      ∙ go (more_made j.fails (entries_of done) f) x.own.items (states_made_by j.fails f done) is.own
      ∙ ap (λ b. states_made_by j.fails f done ++ (if more_made j.fails (entries_of done) f then (if b then length (made_in j.fails (entries_of done)) ∷ [] else []) else [])) (sym (eq-eqb f f refl))
      ∙ sym (own_step j.fails done n f f);
  runs = record {
    sorted = let P : List ℕ → Type 0 = λ l. IsNonDecreasing l in subst P (sym steps_on.failing) is.runs.sorted;
    listed = λ run. ap (list_any (λ r. r == run)) steps_on.failing ∙ is.runs.listed run;
  };
}
  where
    go : (b : Bool) (own all : List ℕ) → own ≡ all → (if b then own ++ length (made_in j.fails (entries_of done)) ∷ [] else own) ≡ all ++ (if b then (if true then length (made_in j.fails (entries_of done)) ∷ [] else []) else [])
    go true own all e = ap (λ l. l ++ length (made_in j.fails (entries_of done)) ∷ []) e
    go false own all e = e ∙ sym (append-nil all)

-- another factory
factory_other : (j : BoardJob) (done : List Sliced) (f g n : ℕ) (x : Factory) → (f ≡ g → ⊥) → FactoryIs j done g x → FactoryIs j (done ++ (Step f, n) ∷ []) g x
factory_other j done f g n x other is =
    let apart : (f == g) ≡ false = ne_eqb f g other in
    record {
      steps = is.steps ∙ sym (ap (step_count g) (steps_now done f n) ∙ steps_push g f (steps (entries_of done)) ∙ ap (λ b. step_count g (steps (entries_of done)) + (if b then 1 else 0)) apart ∙ omega arith);
      last = is.last ∙ sym (greatest_skip (is_step_of g) done (Step f) n apart);
      own = is.own ∙ sym (own_step j.fails done n g f ∙ ap (λ b. states_made_by j.fails g done ++ (if more_made j.fails (entries_of done) f then (if b then length (made_in j.fails (entries_of done)) ∷ [] else []) else [])) apart ∙ go (more_made j.fails (entries_of done) f));
      runs = is.runs;
    }
  where
    go : (b : Bool) → states_made_by j.fails g done ++ (if b then (if false then length (made_in j.fails (entries_of done)) ∷ [] else []) else []) ≡ states_made_by j.fails g done
    go true = append-nil (states_made_by j.fails g done)
    go false = append-nil (states_made_by j.fails g done)

pub first_of : {X : Type 0} (xs : List X) → 0 < length xs → X
first_of [] some = absurd (omega arith)
first_of (x ∷ xs) some = x

pub keeps_step : (j : BoardJob) (done : List Sliced) (was now : Ledger) (f n : ℕ) → Keeps j done was → ((d : Factory) → NotesStep was now f n (get_or was.factories.items f d))
    → f < 16 → greatest_of (is_step_of f) done ≤ n → n ≤ length done + 1 → Keeps j (done ++ (Step f, n) ∷ []) now
keeps_step j done was now f n k steps_on low above few =
    let d : Factory = first_of was.factories.items (omega (arith, k.count)) in
    let x = get_or was.factories.items f d in
    let notes = steps_on d in
    let is = k.factories f d low in
    let m = length (made_in j.fails (entries_of done)) in
    let makes_now = makes_is j done f x is in
    let total : length (made_in j.fails (entries_of (done ++ (Step f, n) ∷ []))) ≡ m + (if more_made j.fails (entries_of done) f then 1 else 0) = ap (λ h. length (made_in j.fails h)) (entries_more done (Step f) n) ∙ made_now j done f n in
    record {
      bound = bound_more done (Step f) n k.bound few;
      size = ap length notes.cells ∙ k.size;
      cells = λ c within. ap (λ l. get_or l c 0) notes.cells ∙ k.cells c within ∙ sym (greatest_skip (holds_cell j.grid c) done (Step f) n refl);
      products = ap length notes.claims ∙ k.products;
      claims = λ q. ap (λ l. get_or l q 0) notes.claims ∙ k.claims q ∙ sym (greatest_skip (is_claim_of q) done (Step f) n refl);
      states = ap length notes.made ∙ long_step was.made.items n (makes x) ∙ ap (λ b. length was.made.items + (if b then 1 else 0)) makes_now ∙ ap (λ l. l + (if more_made j.fails (entries_of done) f then 1 else 0)) k.states ∙ sym total;
      made = λ s. ap (λ l. get_or l s 0) notes.made ∙ ap (λ b. get_or (if b then was.made.items ++ n ∷ [] else was.made.items) s 0) makes_now
          ∙ table_step was.made.items m n s (made_at j.fails done s) (more_made j.fails (entries_of done) f) k.states (k.made s)
          ∙ sym (made_at_step j.fails done (Step f) n s ∙ ap (λ t. if nat_lt s m then made_at j.fails done s else (if nat_lt s t then n else 0)) (made_now j done f n));
      states_taken = ap length notes.taken ∙ long_step was.taken.items 0 (makes x) ∙ ap (λ b. length was.taken.items + (if b then 1 else 0)) makes_now ∙ ap (λ l. l + (if more_made j.fails (entries_of done) f then 1 else 0)) k.states_taken ∙ sym total;
      taken = λ s. ap (λ l. get_or l s 0) notes.taken ∙ taken_step was.taken.items s (makes x) ∙ k.taken s ∙ sym (greatest_skip (is_claim_with s) done (Step f) n refl);
      count = (let (y, steps_y, set_y) = notes.factory in ap length set_y ∙ length-set was.factories.items f y ∙ k.count);
      factories = λ g e within. factory_at g e within;
      placed = let P : List Placed → Type 0 = λ l. PlacedAre j.products l in subst P (sym notes.placed) k.placed;
      clashes = λ q. ap (λ l. greatest_clash j.products l q) notes.placed ∙ k.clashes q ∙ sym (greatest_skip (clashes_with j.products q) done (Step f) n refl);
    }
  where
    factory_at : (g : ℕ) (e : Factory) → g < 16 → FactoryIs j (done ++ (Step f, n) ∷ []) g (get_or now.factories.items g e)
    factory_at g e within =
        let (y, steps_y, set_y) = (steps_on e).factory in
        let P : List Factory → Type 0 = λ l. FactoryIs j (done ++ (Step f, n) ∷ []) g (get_or l g e) in
        subst P (sym set_y) (elim (cases_Bool (f == g)) [
          | inl same ↦
              let Q : Factory → Type 0 = λ z. FactoryIs j (done ++ (Step f, n) ∷ []) g z in
              let R : ℕ → Type 0 = λ h. FactoryIs j (done ++ (Step f, n) ∷ []) h y in
              let at : get_or (set was.factories.items f y) g e ≡ y = ap (λ h. get_or (set was.factories.items f y) h e) (sym (eqb-true f g same)) ∙ get_or-set_same was.factories.items f y e (omega (arith, k.count, low)) in
              let S : ℕ → Type 0 = λ m. Steps (get_or was.factories.items f e) y n m in
              subst Q (sym at) (subst R (eqb-true f g same) (factory_here j done f n (get_or was.factories.items f e) y (k.factories f e low) (subst S k.states steps_y) above))
          | inr other ↦
              let Q : Factory → Type 0 = λ z. FactoryIs j (done ++ (Step f, n) ∷ []) g z in
              let ne : f ≡ g → ⊥ = eqb-false f g other in
              subst Q (sym (get_or-set_other was.factories.items f g y e (λ h. ne (sym h)))) (factory_other j done f g n (get_or was.factories.items g e) ne (k.factories g e within))
        ])

-- the slice of a step, by the tables
room_is : (taken : List ℕ) (done : List Sliced) (own made : List ℕ) (store : ℕ) → own ≡ made → ((s : ℕ) → get_or taken s 0 ≡ greatest_of (is_claim_with s) done) → room_of taken own store ≡ room_made store made done
room_is taken done own made store e known =
    ap (λ l. room_of taken l store) e ∙ ap (λ n. if nat_lt (length made) store then 0 else n) (known (get_or made (length made - store) 0))

pub step_value : (j : BoardJob) (done : List Sliced) (t : Ledger) (f : ℕ) (x : Factory) → Keeps j done t → FactoryIs j done f x → step_of t.taken.items x (store_in j.grid.sites f) ≡ slice_of j done (Step f)
unfolding slice_of
step_value j done t f x k is =
    ap (λ l. 1 + max l (if x.steps % 11 == 0 then room_of t.taken.items x.own.items (store_in j.grid.sites f) else 0)) is.last
    ∙ ap (λ s. 1 + max (greatest_of (is_step_of f) done) (if s % 11 == 0 then room_of t.taken.items x.own.items (store_in j.grid.sites f) else 0)) is.steps
    ∙ ap (λ r. 1 + max (greatest_of (is_step_of f) done) (if step_count f (steps (entries_of done)) % 11 == 0 then r else 0)) (room_is t.taken.items done x.own.items (states_made_by j.fails f done) (store_in j.grid.sites f) is.own k.taken)

room_le : (store : ℕ) (made : List ℕ) (done : List Sliced) → room_made store made done ≤ greatest (map (λ (e : Sliced). e.1) done)
room_le store made done = go (nat_lt (length made) store)
  where
    go : (b : Bool) → (if b then 0 else greatest_of (is_claim_with (get_or made (length made - store) 0)) done) ≤ greatest (map (λ (e : Sliced). e.1) done)
    go true = omega arith
    go false = greatest_le (is_claim_with (get_or made (length made - store) 0)) done

pub step_few : (j : BoardJob) (done : List Sliced) (t : Ledger) (f : ℕ) → Keeps j done t → slice_of j done (Step f) ≤ length done + 1
unfolding slice_of
step_few j done t f k =
    omega (arith, greatest_le (is_step_of f) done, k.bound, go (step_count f (steps (entries_of done)) % 11 == 0))
  where
    go : (b : Bool) → (if b then room_made (store_in j.grid.sites f) (states_made_by j.fails f done) done else 0) ≤ greatest (map (λ (e : Sliced). e.1) done)
    go true = room_le (store_in j.grid.sites f) (states_made_by j.fails f done) done
    go false = omega arith

pub step_above : (j : BoardJob) (done : List Sliced) (f : ℕ) → greatest_of (is_step_of f) done ≤ slice_of j done (Step f)
unfolding slice_of
step_above j done f = omega arith

pub step_ready : (j : BoardJob) (done : List Sliced) (t : Ledger) (f : ℕ) (x : Factory) → Keeps j done t → FactoryIs j done f x → length done + 1 < 2 ^ 32 → IsReady t.taken.items x (store_in j.grid.sites f)
step_ready j done t f x k is few = record {
  steps = omega (arith, is.steps, count_by-le-length (λ g. g == f) (steps (entries_of done)), steps_few (entries_of done), length-map done (λ (e : Sliced). e.0), few);
  slice = omega (arith, step_value j done t f x k is, step_few j done t f k, few);
  sorted = is.runs.sorted;
}
