-- How long a legal history can be: the products bound claims, deliveries, releases and settlings, and the states bound the steps.
use Rattle.std.proofs.Common.{◌≡◌, ℕ, zero, suc, ◌+◌, ◌-◌, ◌/◌, ◌%◌, ◌<◌, ◌≤◌, inl, inr, Bool, true, false, cond, ◌==◌, ◌&&◌, ◌||◌, not, if◌then◌else◌, List, [], ◌∷◌, ◌++◌, length, refl, ap, ap₂, sym, ◌∙◌, arith, append-nil, append_assoc, length-append, zero-add, ne_eqb, eqb-true}
use Rattle.std.proofs.lemmas.Bool.{cases_Bool, cases_lt, eqb-false}
use Rattle.std.proofs.lemmas.List.Sums.{sum_by-cons}
use Rattle.magic_pool.specs.declared.Fail.{Fail}
use Rattle.magic_pool.specs.Recount.{step_count, is_listed, is_made, makers_after, makers_of, is_taken, ready_from, ready_of}

-- ---- sums
abbrev pub sum_to : ℕ → (ℕ → ℕ) → ℕ
sum_to zero u = 0
sum_to (suc n) u = sum_to n u + u n

sum_to_add : (n : ℕ) (u v : ℕ → ℕ) → sum_to n (λ f. u f + v f) ≡ sum_to n u + sum_to n v
sum_to_add zero u v = refl
sum_to_add (suc n) u v = let ih = sum_to_add n u v in omega arith

pub sum_to_le : (n : ℕ) (u v : ℕ → ℕ) → ((f : ℕ) → f < n → u f ≤ v f) → sum_to n u ≤ sum_to n v
sum_to_le zero u v h = omega arith
sum_to_le (suc n) u v h = let ih = sum_to_le n u v (λ f l. h f (omega arith)) in let here = h n (omega arith) in omega arith

sum_to_same : (n : ℕ) (u v : ℕ → ℕ) → ((f : ℕ) → f < n → u f ≡ v f) → sum_to n u ≡ sum_to n v
sum_to_same zero u v h = refl
sum_to_same (suc n) u v h = ap₂ ◌+◌ (sum_to_same n u v (λ f l. h f (omega arith))) (h n (omega arith))

abbrev pub one_if : Bool → ℕ
one_if b = if b then 1 else 0

-- exactly one number is x
sum_to_none : (n x : ℕ) → n ≤ x → sum_to n (λ f. one_if (x == f)) ≡ 0
sum_to_none zero x l = refl
sum_to_none (suc n) x l = rw (ne_eqb x n (λ e. absurd (omega arith))) (let ih = sum_to_none n x (omega arith) in omega arith)

sum_to_one : (n x : ℕ) → x < n → sum_to n (λ f. one_if (x == f)) ≡ 1
sum_to_one zero x l = absurd (omega arith)
sum_to_one (suc n) x l =
    elim (cases_Bool (x == n)) [
      | inl e ↦ rw e (let none = sum_to_none n x (let s = eqb-true x n e in omega arith) in omega arith)
      | inr e ↦ rw e (let one = sum_to_one n x (let s = eqb-false x n e in omega arith) in omega arith)
    ]

-- ---- how often a number stands in a list
abbrev pub tally : ℕ → List ℕ → ℕ
tally f [] = 0
tally f (x ∷ xs) = one_if (x == f) + tally f xs

pub tally-append : (f : ℕ) (xs ys : List ℕ) → tally f (xs ++ ys) ≡ tally f xs + tally f ys
tally-append f [] ys = omega arith
tally-append f (x ∷ xs) ys = let ih = tally-append f xs ys in omega arith

pub steps_tally : (f : ℕ) (xs : List ℕ) → step_count f xs ≡ tally f xs
steps_tally f [] = refl
steps_tally f (x ∷ xs) = sum_by-cons (λ g. cond (g == f) 1 0) x xs ∙ ap₂ ◌+◌ (same (x == f)) (steps_tally f xs)
  where
    same : (b : Bool) → cond b 1 0 ≡ one_if b
    same true = refl
    same false = refl

abbrev pub Below : ℕ → List ℕ → Type 0
Below n [] = Unit {0}
Below n (x ∷ xs) = (x < n) × Below n xs

pub Below-append : (n : ℕ) (xs ys : List ℕ) → Below n xs → Below n ys → Below n (xs ++ ys)
Below-append n [] ys h k = k
Below-append n (x ∷ xs) ys h k = (h.0, Below-append n xs ys h.1 k)

-- a list of numbers below n, by how often each stands in it
pub all_tallied : (n : ℕ) (xs : List ℕ) → Below n xs → sum_to n (λ f. tally f xs) ≡ length xs
all_tallied n [] h = zeros n
  where
    zeros : (n : ℕ) → sum_to n (λ f. tally f []) ≡ 0
    zeros zero = refl
    zeros (suc n) = let ih = zeros n in omega arith
all_tallied n (x ∷ xs) h =
    sum_to_add n (λ f. one_if (x == f)) (λ f. tally f xs)
    ∙ (let here = sum_to_one n x h.0 in let ih = all_tallied n xs h.1 in omega arith)

-- ---- runs
-- the states that n steps of a factory make
abbrev pub made : List Fail → ℕ → ℕ → ℕ
made fails f zero = 0
made fails f (suc n) = made fails f n + one_if (is_made fails f (suc n))

-- its first n runs that are listed
abbrev pub listed : List Fail → ℕ → ℕ → ℕ
listed fails f zero = 0
listed fails f (suc n) = listed fails f n + one_if (is_listed fails f n)

one_of : (b : Bool) → one_if (not b) + one_if b ≡ 1
one_of true = refl
one_of false = refl

-- each whole run makes a state or is listed
pub runs_made : (fails : List Fail) (f n : ℕ) → n / 11 ≤ made fails f n + listed fails f (n / 11)
runs_made fails f zero = omega arith
runs_made fails f (suc n) =
    elim (cases_Bool (suc n % 11 == 0)) [
      | inl e ↦
          let whole = eqb-true (suc n % 11) 0 e in
          let runs : suc n / 11 ≡ suc (n / 11) = omega arith in
          let before : suc n / 11 - 1 ≡ n / 11 = omega arith in
          let here : one_if (is_made fails f (suc n)) ≡ one_if (not (is_listed fails f (n / 11))) = ap₂ (λ b r. one_if (b && not (is_listed fails f r))) e before in
          let more : listed fails f (suc n / 11) ≡ listed fails f (n / 11) + one_if (is_listed fails f (n / 11)) = ap (listed fails f) runs in
          let one = one_of (is_listed fails f (n / 11)) in
          let ih = runs_made fails f n in
          omega arith
      | inr e ↦
          let part = eqb-false (suc n % 11) 0 e in
          let runs : suc n / 11 ≡ n / 11 = omega arith in
          let more : listed fails f (suc n / 11) ≡ listed fails f (n / 11) = ap (listed fails f) runs in
          let ih = runs_made fails f n in
          omega arith
    ]

-- a list names no more runs than it is long
listed_cons : (x : Fail) (fails : List Fail) (f n : ℕ) → listed (x ∷ fails) f n ≤ sum_to n (λ r. one_if (x.run == r)) + listed fails f n
listed_cons x fails f zero = omega arith
listed_cons x fails f (suc n) =
    let here = one (x.factory == f) (x.run == n) (is_listed fails f n) in
    let ih = listed_cons x fails f n in
    omega arith
  where
    one : (a b c : Bool) → one_if ((a && b) || c) ≤ one_if b + one_if c
    one true true c = omega arith
    one true false c = omega arith
    one false b c = omega arith

at_most_one : (n x : ℕ) → sum_to n (λ r. one_if (x == r)) ≤ 1
at_most_one n x = elim (cases_lt x n) [ inl l ↦ (let e = sum_to_one n x l in omega arith) | inr l ↦ (let e = sum_to_none n x l in omega arith) ]

pub listed_few : (fails : List Fail) (f n : ℕ) → listed fails f n ≤ length fails
listed_few [] f zero = omega arith
listed_few [] f (suc n) = let ih = listed_few [] f n in omega arith
listed_few (x ∷ fails) f n =
    let here = listed_cons x fails f n in
    let one = at_most_one n x.run in
    let ih = listed_few fails f n in
    omega arith

-- ---- the makers of states
pub push_tally : (f g : ℕ) (before : List ℕ) → step_count f (before ++ g ∷ []) ≡ step_count f before + one_if (g == f)
push_tally f g before =
    steps_tally f (before ++ g ∷ []) ∙ tally-append f before (g ∷ []) ∙ (let e = steps_tally f before in omega arith)

pub makers_tally : (fails : List Fail) (f : ℕ) (before fs : List ℕ) → tally f (makers_after fails before fs) + made fails f (step_count f before) ≡ made fails f (step_count f (before ++ fs))
makers_tally fails f before [] = zero-add (made fails f (step_count f before)) ∙ ap (λ l. made fails f (step_count f l)) (sym (append-nil before))
makers_tally fails f before (g ∷ fs) =
    let ih = makers_tally fails f (before ++ g ∷ []) fs in
    let more : made fails f (step_count f ((before ++ g ∷ []) ++ fs)) ≡ made fails f (step_count f (before ++ g ∷ fs)) = ap (λ l. made fails f (step_count f l)) (append_assoc before (g ∷ []) fs) in
    let first = tally_first (is_made fails g (step_count g before + 1)) in
    let step : made fails f (step_count f (before ++ g ∷ [])) ≡ made fails f (step_count f before) + one_if (g == f && is_made fails g (step_count g before + 1)) =
    ap (made fails f) (push_tally f g before) ∙ one_more (g == f) refl in
    omega arith
  where
    tally_first : (b : Bool) → tally f (if b then (g ∷ makers_after fails (before ++ g ∷ []) fs) else makers_after fails (before ++ g ∷ []) fs) ≡ one_if (g == f && b) + tally f (makers_after fails (before ++ g ∷ []) fs)
    tally_first true = ap (λ x. x + tally f (makers_after fails (before ++ g ∷ []) fs)) (same (g == f))
      where
        same : (x : Bool) → one_if x ≡ one_if (x && true)
        same true = refl
        same false = refl
    tally_first false = none (g == f)
      where
        none : (x : Bool) → tally f (makers_after fails (before ++ g ∷ []) fs) ≡ one_if (x && false) + tally f (makers_after fails (before ++ g ∷ []) fs)
        none true = omega arith
        none false = omega arith

    one_more : (b : Bool) → (g == f) ≡ b → made fails f (step_count f before + one_if b) ≡ made fails f (step_count f before) + one_if (b && is_made fails g (step_count g before + 1))
    one_more true e =
        ap (made fails f) (let n : step_count f before + 1 ≡ suc (step_count f before) = omega arith in n)
        ∙ ap (λ k. made fails f (step_count f before) + one_if (is_made fails f k)) (let n : suc (step_count f before) ≡ step_count f before + 1 = omega arith in n)
        ∙ ap (λ y. made fails f (step_count f before) + one_if (is_made fails y (step_count y before + 1))) (sym (eqb-true g f e))
    one_more false e = ap (made fails f) (let n : step_count f before + 0 ≡ step_count f before = omega arith in n) ∙ (let z : made fails f (step_count f before) ≡ made fails f (step_count f before) + 0 = omega arith in z)

makers_after-push : (fails : List Fail) (before fs : List ℕ) (g : ℕ) → makers_after fails before (fs ++ g ∷ []) ≡ makers_after fails before fs ++ (if is_made fails g (step_count g (before ++ fs) + 1) then g ∷ [] else [])
makers_after-push fails before [] g = ap (λ l. if is_made fails g (step_count g l + 1) then g ∷ [] else []) (sym (append-nil before))
makers_after-push fails before (x ∷ fs) g =
    ap (λ l. if is_made fails x (step_count x before + 1) then (x ∷ l) else l) (makers_after-push fails (before ++ x ∷ []) fs g ∙ ap (λ l. makers_after fails (before ++ x ∷ []) fs ++ (if is_made fails g (step_count g l + 1) then g ∷ [] else [])) (append_assoc before (x ∷ []) fs))
    ∙ go (is_made fails x (step_count x before + 1)) (makers_after fails (before ++ x ∷ []) fs) (if is_made fails g (step_count g (before ++ x ∷ fs) + 1) then g ∷ [] else [])
  where
    go : (b : Bool) (l m : List ℕ) → (if b then (x ∷ (l ++ m)) else (l ++ m)) ≡ (if b then (x ∷ l) else l) ++ m
    go true l m = refl
    go false l m = refl

pub makers-push : (fails : List Fail) (st : List ℕ) (g : ℕ) → makers_of fails (st ++ g ∷ []) ≡ makers_of fails st ++ (if is_made fails g (step_count g st + 1) then g ∷ [] else [])
makers-push fails st g = makers_after-push fails [] st g

-- ---- ready states
ready-append : (n : ℕ) (ms ns taken : List ℕ) (f : ℕ) → ready_from n (ms ++ ns) taken f ≡ ready_from n ms taken f ++ ready_from (n + length ms) ns taken f
ready-append n [] ns taken f = ap (λ k. ready_from k ns taken f) (let e : n ≡ n + 0 = omega arith in e)
ready-append n (m ∷ ms) ns taken f =
    ap (λ l. if m == f && not (is_taken taken n) then (n ∷ l) else l) (ready-append (n + 1) ms ns taken f)
    ∙ go (m == f && not (is_taken taken n)) (ready_from (n + 1) ms taken f)
    ∙ ap (λ k. (if m == f && not (is_taken taken n) then (n ∷ ready_from (n + 1) ms taken f) else ready_from (n + 1) ms taken f) ++ ready_from k ns taken f) (let e : (n + 1) + length ms ≡ n + suc (length ms) = omega arith in e)
  where
    go : (b : Bool) (l : List ℕ) → (if b then (n ∷ (l ++ ready_from ((n + 1) + length ms) ns taken f)) else (l ++ ready_from ((n + 1) + length ms) ns taken f)) ≡ (if b then (n ∷ l) else l) ++ ready_from ((n + 1) + length ms) ns taken f
    go true l = refl
    go false l = refl

one_ready : (n g f : ℕ) (taken : List ℕ) (b : Bool) → length (ready_from n (if b then g ∷ [] else []) taken f) ≤ one_if (g == f && b)
one_ready n g f taken true = go (g == f) (is_taken taken n)
  where
    go : (x t : Bool) → length (if x && not t then n ∷ [] else []) ≤ one_if (x && true)
    go true true = omega arith
    go true false = omega arith
    go false t = omega arith
one_ready n g f taken false = omega arith

pub ready_step : (fails : List Fail) (st taken : List ℕ) (g f : ℕ) → length (ready_of fails (st ++ g ∷ []) taken f) ≤ length (ready_of fails st taken f) + one_if (g == f && is_made fails g (step_count g st + 1))
ready_step fails st taken g f =
    let e = ap (λ l. length (ready_from 0 l taken f)) (makers-push fails st g) in
    let d = ap length (ready-append 0 (makers_of fails st) (if is_made fails g (step_count g st + 1) then g ∷ [] else []) taken f) in
    let c = length-append (ready_of fails st taken f) (ready_from (0 + length (makers_of fails st)) (if is_made fails g (step_count g st + 1) then g ∷ [] else []) taken f) in
    let o = one_ready (0 + length (makers_of fails st)) g f taken (is_made fails g (step_count g st + 1)) in
    omega arith

taken_more : (taken : List ℕ) (s n : ℕ) → is_taken (taken ++ s ∷ []) n ≡ (is_taken taken n || s == n)
taken_more [] s n = last (s == n)
  where
    last : (b : Bool) → (b || false) ≡ b
    last true = refl
    last false = refl
taken_more (t ∷ taken) s n = ap (λ b. t == n || b) (taken_more taken s n) ∙ go (t == n) (is_taken taken n) (s == n)
  where
    go : (x y z : Bool) → (x || (y || z)) ≡ ((x || y) || z)
    go true y z = refl
    go false y z = refl

pub ready_taken : (n : ℕ) (ms taken : List ℕ) (s f : ℕ) → length (ready_from n ms (taken ++ s ∷ []) f) ≤ length (ready_from n ms taken f)
ready_taken n [] taken s f = omega arith
ready_taken n (m ∷ ms) taken s f =
    rw (taken_more taken s n) (go (m == f) (is_taken taken n) (s == n) (ready_from (n + 1) ms (taken ++ s ∷ []) f) (ready_from (n + 1) ms taken f) (ready_taken (n + 1) ms taken s f))
  where
    go : (x y z : Bool) (l k : List ℕ) → length l ≤ length k → length (if x && not (y || z) then (n ∷ l) else l) ≤ length (if x && not y then (n ∷ k) else k)
    go true true z l k h = h
    go true false true l k h = omega arith
    go true false false l k h = omega arith
    go false y z l k h = h

-- how many of k numbers from n on are taken
abbrev pub takens : List ℕ → ℕ → ℕ → ℕ
takens taken n zero = 0
takens taken n (suc k) = one_if (is_taken taken n) + takens taken (n + 1) k

abbrev ones : ℕ → ℕ → ℕ → ℕ
ones t n zero = 0
ones t n (suc k) = one_if (t == n) + ones t (n + 1) k

no_ones : (t n k : ℕ) → t < n → ones t n k ≡ 0
no_ones t n zero l = refl
no_ones t n (suc k) l = rw (ne_eqb t n (λ e. absurd (omega arith))) (let ih = no_ones t (n + 1) k (omega arith) in omega arith)

one_one : (t n k : ℕ) → ones t n k ≤ 1
one_one t n zero = omega arith
one_one t n (suc k) =
    elim (cases_Bool (t == n)) [
      | inl e ↦ rw e (let none = no_ones t (n + 1) k (let s = eqb-true t n e in omega arith) in omega arith)
      | inr e ↦ rw e (let ih = one_one t (n + 1) k in omega arith)
    ]

takens_cons : (t : ℕ) (ts : List ℕ) (n k : ℕ) → takens (t ∷ ts) n k ≤ ones t n k + takens ts n k
takens_cons t ts n zero = omega arith
takens_cons t ts n (suc k) = let here = one (t == n) (is_taken ts n) in let ih = takens_cons t ts (n + 1) k in omega arith
  where
    one : (a b : Bool) → one_if (a || b) ≤ one_if a + one_if b
    one true b = omega arith
    one false b = omega arith

pub takens_few : (taken : List ℕ) (n k : ℕ) → takens taken n k ≤ length taken
takens_few [] n zero = omega arith
takens_few [] n (suc k) = let ih = takens_few [] (n + 1) k in omega arith
takens_few (t ∷ ts) n k = let here = takens_cons t ts n k in let one = one_one t n k in let ih = takens_few ts n k in omega arith

-- each state is taken or ready at its maker
pub all_ready : (m n : ℕ) (ms taken : List ℕ) → Below m ms → length ms ≡ sum_to m (λ f. length (ready_from n ms taken f)) + takens taken n (length ms)
all_ready m n [] taken h = let z = zeros m in omega arith
  where
    zeros : (m : ℕ) → sum_to m (λ f. length (ready_from n [] taken f)) ≡ 0
    zeros zero = refl
    zeros (suc m) = let ih = zeros m in omega arith
all_ready m n (x ∷ ms) taken h =
    let ih = all_ready m (n + 1) ms taken h.1 in
    let here = sum_to_same m (λ f. length (ready_from n (x ∷ ms) taken f)) (λ f. one_if (x == f && not (is_taken taken n)) + length (ready_from (n + 1) ms taken f)) (λ f l. first (x == f && not (is_taken taken n)) (ready_from (n + 1) ms taken f)) in
    let split = sum_to_add m (λ f. one_if (x == f && not (is_taken taken n))) (λ f. length (ready_from (n + 1) ms taken f)) in
    let one = ones_of (is_taken taken n) in
    omega arith
  where
    first : (b : Bool) (l : List ℕ) → length (if b then (n ∷ l) else l) ≡ one_if b + length l
    first true l = omega arith
    first false l = omega arith

    both : (a : Bool) → one_if (a && true) ≡ one_if a
    both true = refl
    both false = refl

    neither : (a : Bool) → one_if (a && false) ≡ 0
    neither true = refl
    neither false = refl

    zeros : (m : ℕ) → sum_to m (λ f. one_if (x == f && false)) ≡ 0
    zeros zero = refl
    zeros (suc m) = let ih = zeros m in let z = neither (x == m) in omega arith

    ones_of : (t : Bool) → sum_to m (λ f. one_if (x == f && not t)) + one_if t ≡ 1
    ones_of true = let z = zeros m in omega arith
    ones_of false = let e = sum_to_same m (λ f. one_if (x == f && true)) (λ f. one_if (x == f)) (λ f l. both (x == f)) in let one = sum_to_one m x h.0 in omega arith
