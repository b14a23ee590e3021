-- How the recount goes on by one step, or by one taken state.
use Rattle.std.proofs.Common.{◌≡◌, ◌⊎◌, ℕ, zero, suc, ◌+◌, ◌-◌, ◌<◌, ◌≤◌, Bool, true, false, ◌==◌, ◌&&◌, ◌||◌, not, if◌then◌else◌, List, [], ◌∷◌, ◌++◌, length, drop, get_or, slice_get, Option, Some, None, refl, ap, sym, ◌∙◌, arith, append-nil, append_assoc, inl, inr, eq-eqb, ne_eqb, eqb-true}
use Rattle.std.specs.List.{All, AllPairs}
use Rattle.std.proofs.lemmas.Bool.{and_parts, or_parts, true≢false}
use Rattle.std.proofs.lemmas.Option.{same_Some, none-some}
use Rattle.std.proofs.lemmas.Grind.{common_steps}
use Rattle.std.proofs.lemmas.List.Kept.{AllPairs-cons}
use Rattle.std.proofs.lemmas.List.Elements.{All-nil, All-cons}
use Rattle.magic_pool.specs.declared.Fail.{Fail}
use Rattle.magic_pool.specs.Recount.{step_count, is_made, makers_after, makers_of, is_taken, ready_from, ready_of, first_of_list}
use Rattle.magic_pool.specs.Given.{Event, given_after}
use Rattle.magic_pool.specs.Given as given

-- ---- steps and makers
pub steps_push : (f g : ℕ) (before : List ℕ) → step_count f (before ++ g ∷ []) ≡ step_count f before + (if g == f then 1 else 0)
steps_push f g before = grind (arith, common_steps)

makers_after-push : (fails : List Fail) (before fs : List ℕ) (g : ℕ) → makers_after fails before (fs ++ g ∷ []) ≡ makers_after fails before fs ++ (if is_made fails g (step_count g (before ++ fs) + 1) then g ∷ [] else [])
makers_after-push fails before [] g = ap (λ l. if is_made fails g (step_count g l + 1) then g ∷ [] else []) (sym (append-nil before))
makers_after-push fails before (x ∷ fs) g =
    ap (λ l. if is_made fails x (step_count x before + 1) then (x ∷ l) else l) (makers_after-push fails (before ++ x ∷ []) fs g ∙ ap (λ l. makers_after fails (before ++ x ∷ []) fs ++ (if is_made fails g (step_count g l + 1) then g ∷ [] else [])) (append_assoc before (x ∷ []) fs))
    ∙ go (is_made fails x (step_count x before + 1)) (makers_after fails (before ++ x ∷ []) fs) (if is_made fails g (step_count g (before ++ x ∷ fs) + 1) then g ∷ [] else [])
  where
    go : (b : Bool) (l m : List ℕ) → (if b then (x ∷ (l ++ m)) else (l ++ m)) ≡ (if b then (x ∷ l) else l) ++ m
    go true l m = refl
    go false l m = refl

pub makers-push : (fails : List Fail) (steps : List ℕ) (g : ℕ) → makers_of fails (steps ++ g ∷ []) ≡ makers_of fails steps ++ (if is_made fails g (step_count g steps + 1) then g ∷ [] else [])
makers-push fails steps g = makers_after-push fails [] steps g

pub made_more : (fails : List Fail) (steps : List ℕ) (g : ℕ) → length (makers_of fails (steps ++ g ∷ [])) ≡ length (makers_of fails steps) + (if is_made fails g (step_count g steps + 1) then 1 else 0)
made_more fails steps g = ap length (makers-push fails steps g) ∙ go (is_made fails g (step_count g steps + 1)) (makers_of fails steps)
  where
    go : (b : Bool) (l : List ℕ) → length (l ++ (if b then g ∷ [] else [])) ≡ length l + (if b then 1 else 0)
    go true l = grind (arith, common_steps)
    go false l = grind (arith, common_steps)

made_few : (fails : List Fail) (before fs : List ℕ) → length (makers_after fails before fs) ≤ length fs
made_few fails before [] = omega arith
made_few fails before (f ∷ fs) = go (is_made fails f (step_count f before + 1)) (makers_after fails (before ++ f ∷ []) fs) (made_few fails (before ++ f ∷ []) fs)
  where
    go : (b : Bool) (l : List ℕ) → length l ≤ length fs → length (if b then (f ∷ l) else l) ≤ length (f ∷ fs)
    go true l le = omega arith
    go false l le = omega arith

-- no more states than steps
pub made_le : (fails : List Fail) (steps : List ℕ) → length (makers_of fails steps) ≤ length steps
made_le fails steps = made_few fails [] steps

-- ---- ready states
ready-append : (n : ℕ) (ms ns taken : List ℕ) (f : ℕ) → ready_from n (ms ++ ns) taken f ≡ ready_from n ms taken f ++ ready_from (n + length ms) ns taken f
ready-append n [] ns taken f = ap (λ k. ready_from k ns taken f) (let e : n ≡ n + 0 = omega arith in e)
ready-append n (m ∷ ms) ns taken f =
    ap (λ l. if m == f && not (is_taken taken n) then (n ∷ l) else l) (ready-append (n + 1) ms ns taken f)
    ∙ go (m == f && not (is_taken taken n)) (ready_from (n + 1) ms taken f)
    ∙ ap (λ k. (if m == f && not (is_taken taken n) then (n ∷ ready_from (n + 1) ms taken f) else ready_from (n + 1) ms taken f) ++ ready_from k ns taken f) (let e : (n + 1) + length ms ≡ n + suc (length ms) = omega arith in e)
  where
    go : (b : Bool) (l : List ℕ) → (if b then (n ∷ (l ++ ready_from ((n + 1) + length ms) ns taken f)) else (l ++ ready_from ((n + 1) + length ms) ns taken f)) ≡ (if b then (n ∷ l) else l) ++ ready_from ((n + 1) + length ms) ns taken f
    go true l = refl
    go false l = refl

-- a step of g makes its next state ready
pub ready_push : (fails : List Fail) (steps taken : List ℕ) (g f : ℕ) → is_taken taken (length (makers_of fails steps)) ≡ false
    → ready_of fails (steps ++ g ∷ []) taken f ≡ (if is_made fails g (step_count g steps + 1) && g == f then ready_of fails steps taken f ++ length (makers_of fails steps) ∷ [] else ready_of fails steps taken f)
ready_push fails steps taken g f untaken =
    ap (λ l. ready_from 0 l taken f) (makers-push fails steps g)
    ∙ ready-append 0 (makers_of fails steps) (if is_made fails g (step_count g steps + 1) then g ∷ [] else []) taken f
    ∙ go (is_made fails g (step_count g steps + 1)) (length (makers_of fails steps)) (ready_of fails steps taken f) untaken
  where
    last : (b : Bool) (n : ℕ) (l : List ℕ) → l ++ (if b && true then n ∷ [] else []) ≡ (if b then l ++ n ∷ [] else l)
    last true n l = refl
    last false n l = append-nil l

    go : (b : Bool) (n : ℕ) (l : List ℕ) → is_taken taken n ≡ false → l ++ ready_from (0 + n) (if b then g ∷ [] else []) taken f ≡ (if b && g == f then l ++ n ∷ [] else l)
    go true n l none = rw (let e : 0 + n ≡ n = omega arith in e, none) (last (g == f) n l)
    go false n l none = append-nil l

pub taken_more : (taken : List ℕ) (s n : ℕ) → is_taken (taken ++ s ∷ []) n ≡ (is_taken taken n || s == n)
taken_more [] s n = last (s == n)
  where
    last : (b : Bool) → (b || false) ≡ b
    last true = refl
    last false = refl
taken_more (t ∷ taken) s n = ap (λ b. t == n || b) (taken_more taken s n) ∙ go (t == n) (is_taken taken n) (s == n)
  where
    go : (x y z : Bool) → (x || (y || z)) ≡ ((x || y) || z)
    go true y z = refl
    go false y z = refl

or_false : (b : Bool) → (b || false) ≡ b
or_false true = refl
or_false false = refl

or_true : (b : Bool) → (b || true) ≡ true
or_true true = refl
or_true false = refl

-- another state stays as it is
pub taken_other : (taken : List ℕ) (s n : ℕ) → (s ≡ n → ⊥) → is_taken (taken ++ s ∷ []) n ≡ is_taken taken n
taken_other taken s n other = taken_more taken s n ∙ rw (ne_eqb s n other) (or_false (is_taken taken n))

taken_here : (taken : List ℕ) (s : ℕ) → is_taken (taken ++ s ∷ []) s ≡ true
taken_here taken s = taken_more taken s s ∙ rw (eq-eqb s s refl) (or_true (is_taken taken s))

ready_below : (n : ℕ) (ms taken : List ℕ) (s f : ℕ) → s < n → ready_from n ms (taken ++ s ∷ []) f ≡ ready_from n ms taken f
ready_below n [] taken s f below = refl
ready_below n (m ∷ ms) taken s f below =
    rw (taken_other taken s n (λ e. absurd (omega arith)), ready_below (n + 1) ms taken s f (omega arith)) refl

-- the first ready state of a list: the head, or that of the rest
first_cases : (b : Bool) (n : ℕ) (l : List ℕ) (s : ℕ) → first_of_list (if b then (n ∷ l) else l) ≡ Some s → ((b ≡ true) × (n ≡ s)) ⊎ ((b ≡ false) × (first_of_list l ≡ Some s))
first_cases true n l s e = inl (refl, same_Some n s e)
first_cases false n l s e = inr (refl, e)

first_ge : (n : ℕ) (ms taken : List ℕ) (f s : ℕ) → first_of_list (ready_from n ms taken f) ≡ Some s → n ≤ s
first_ge n [] taken f s e = absurd (none-some s e)
first_ge n (m ∷ ms) taken f s e = elim (first_cases (m == f && not (is_taken taken n)) n (ready_from (n + 1) ms taken f) s e) [
  | inl here ↦ let is : n ≡ s = here.1 in omega arith
  | inr later ↦ let ge : n + 1 ≤ s = first_ge (n + 1) ms taken f s later.1 in omega arith
]

-- a ready state has been made
pub first_made : (n : ℕ) (ms taken : List ℕ) (f s : ℕ) → first_of_list (ready_from n ms taken f) ≡ Some s → s < n + length ms
first_made n [] taken f s e = absurd (none-some s e)
first_made n (m ∷ ms) taken f s e = elim (first_cases (m == f && not (is_taken taken n)) n (ready_from (n + 1) ms taken f) s e) [
  | inl here ↦ let is : n ≡ s = here.1 in omega arith
  | inr later ↦ let below : s < (n + 1) + length ms = first_made (n + 1) ms taken f s later.1 in omega arith
]

-- the least ready state, taken, leaves the others
pub ready_take : (n : ℕ) (ms taken : List ℕ) (f s : ℕ) → first_of_list (ready_from n ms taken f) ≡ Some s → ready_from n ms (taken ++ s ∷ []) f ≡ drop 1 (ready_from n ms taken f)
ready_take n [] taken f s e = absurd (none-some s e)
ready_take n (m ∷ ms) taken f s e = elim (first_cases (m == f && not (is_taken taken n)) n (ready_from (n + 1) ms taken f) s e) [
  | inl here ↦
      let gone : is_taken (taken ++ s ∷ []) n ≡ true = rw here.1 (taken_here taken s) in
      let rest : ready_from (n + 1) ms (taken ++ s ∷ []) f ≡ ready_from (n + 1) ms taken f = ready_below (n + 1) ms taken s f (let is : n ≡ s = here.1 in omega arith) in
      rw (here.0, gone, rest) (taken_out (m == f) (ready_from (n + 1) ms taken f))
  | inr later ↦
      let ge : n + 1 ≤ s = first_ge (n + 1) ms taken f s later.1 in
      rw (taken_other taken s n (λ is. absurd (omega arith)), later.0) (ready_take (n + 1) ms taken f s later.1)
]
  where
    taken_out : (b : Bool) (l : List ℕ) → (if b && false then (n ∷ l) else l) ≡ l
    taken_out true l = refl
    taken_out false l = refl

pub ready_take_other : (n : ℕ) (ms taken : List ℕ) (f g s : ℕ) → (f ≡ g → ⊥) → first_of_list (ready_from n ms taken f) ≡ Some s → ready_from n ms (taken ++ s ∷ []) g ≡ ready_from n ms taken g
ready_take_other n [] taken f g s other e = refl
ready_take_other n (m ∷ ms) taken f g s other e = elim (first_cases (m == f && not (is_taken taken n)) n (ready_from (n + 1) ms taken f) s e) [
  | inl here ↦
      let mine : m ≡ f = eqb-true m f ((and_parts (m == f) (not (is_taken taken n)) here.0).0) in
      let not_g : (m == g) ≡ false = ne_eqb m g (λ is. other (sym mine ∙ is)) in
      let rest : ready_from (n + 1) ms (taken ++ s ∷ []) g ≡ ready_from (n + 1) ms taken g = ready_below (n + 1) ms taken s g (let is : n ≡ s = here.1 in omega arith) in
      rw (not_g, rest) refl
  | inr later ↦
      let ge : n + 1 ≤ s = first_ge (n + 1) ms taken f s later.1 in
      rw (taken_other taken s n (λ is. absurd (omega arith)), ready_take_other (n + 1) ms taken f g s other later.1) refl
]

-- ---- laws
untrue : (b : Bool) → not b ≡ true → b ≡ false
untrue true x = absurd (true≢false (sym x))
untrue false x = refl

first_untaken : (n : ℕ) (ms taken : List ℕ) (f s : ℕ) → first_of_list (ready_from n ms taken f) ≡ Some s → is_taken taken s ≡ false
first_untaken n [] taken f s e = absurd (none-some s e)
first_untaken n (m ∷ ms) taken f s e = elim (first_cases (m == f && not (is_taken taken n)) n (ready_from (n + 1) ms taken f) s e) [
  | inl here ↦ rw (← here.1) (untrue (is_taken taken n) ((and_parts (m == f) (not (is_taken taken n)) here.0).1))
  | inr later ↦ first_untaken (n + 1) ms taken f s later.1
]

-- a ready state was made by its factory
pub maker_of : (n : ℕ) (ms taken : List ℕ) (f s k : ℕ) → k < length (ready_from n ms taken f) → get_or (ready_from n ms taken f) k s ≡ s → (n ≤ s) × (slice_get ms (s - n) ≡ Some f)
maker_of n [] taken f s k inside here = absurd (omega arith)
maker_of n (m ∷ ms) taken f s k inside here = go (maker_of (n + 1) ms taken f s) (m == f && not (is_taken taken n)) refl k inside here
  where
    behind : (n + 1 ≤ s) × (slice_get ms (s - (n + 1)) ≡ Some f) → (n ≤ s) × (slice_get (m ∷ ms) (s - n) ≡ Some f)
    behind rest = (omega (arith, rest.0), rw (let e : s - n ≡ suc (s - (n + 1)) = omega (arith, rest.0) in e) rest.1)

    go : ((j : ℕ) → j < length (ready_from (n + 1) ms taken f) → get_or (ready_from (n + 1) ms taken f) j s ≡ s → (n + 1 ≤ s) × (slice_get ms (s - (n + 1)) ≡ Some f))
        → (b : Bool) → (m == f && not (is_taken taken n)) ≡ b → (j : ℕ) → j < length (if b then (n ∷ ready_from (n + 1) ms taken f) else ready_from (n + 1) ms taken f)
        → get_or (if b then (n ∷ ready_from (n + 1) ms taken f) else ready_from (n + 1) ms taken f) j s ≡ s → (n ≤ s) × (slice_get (m ∷ ms) (s - n) ≡ Some f)
    go later true is zero within at =
        let mine : m ≡ f = eqb-true m f ((and_parts (m == f) (not (is_taken taken n)) is).0) in
        let same : n ≡ s = at in
        (omega arith, rw (let e : s - n ≡ 0 = omega arith in e) (ap Some mine))
    go later true is (suc j) within at = behind (later j (omega arith) at)
    go later false is j within at = behind (later j within at)

-- the states that the events take weren't taken before, and none of them comes twice
pub given_untaken : (fails : List Fail) (steps taken : List ℕ) (events : List Event) → All (λ t. is_taken taken t ≡ false) (given_after fails steps taken events)
given_untaken fails steps taken [] = All-nil (λ t. is_taken taken t ≡ false)
given_untaken fails steps taken (given.step f ∷ es) = given_untaken fails (steps ++ f ∷ []) taken es
given_untaken fails steps taken (given.take f ∷ es) = go (given_untaken fails steps taken es) (λ s. given_untaken fails steps (taken ++ s ∷ []) es) (first_of_list (ready_of fails steps taken f)) refl
  where
    go : All (λ t. is_taken taken t ≡ false) (given_after fails steps taken es) → ((s : ℕ) → All (λ t. is_taken (taken ++ s ∷ []) t ≡ false) (given_after fails steps (taken ++ s ∷ []) es))
        → (o : Option ℕ) → first_of_list (ready_of fails steps taken f) ≡ o → All (λ t. is_taken taken t ≡ false) (elim o [ None ↦ given_after fails steps taken es | Some s ↦ s ∷ given_after fails steps (taken ++ s ∷ []) es ])
    go same more None e = same
    go same more (Some s) e = All-cons (λ t. is_taken taken t ≡ false) s (given_after fails steps (taken ++ s ∷ []) es) (first_untaken 0 (makers_of fails steps) taken f s e)
        (λ k d inside. before s (get_or (given_after fails steps (taken ++ s ∷ []) es) k d) (more s k d inside))
      where
        before : (s t : ℕ) → is_taken (taken ++ s ∷ []) t ≡ false → is_taken taken t ≡ false
        before s t none = (or_parts (is_taken taken t) (s == t) (sym (taken_more taken s t) ∙ none)).0

pub given_once : (fails : List Fail) (steps taken : List ℕ) (events : List Event) → AllPairs (λ s t. s ≡ t → ⊥) (given_after fails steps taken events)
given_once fails steps taken [] = λ i j d below inside. absurd (omega arith)
given_once fails steps taken (given.step f ∷ es) = given_once fails (steps ++ f ∷ []) taken es
given_once fails steps taken (given.take f ∷ es) = go (given_once fails steps taken es) (λ s. given_once fails steps (taken ++ s ∷ []) es) (first_of_list (ready_of fails steps taken f))
  where
    go : AllPairs (λ s t. s ≡ t → ⊥) (given_after fails steps taken es) → ((s : ℕ) → AllPairs (λ s t. s ≡ t → ⊥) (given_after fails steps (taken ++ s ∷ []) es))
        → (o : Option ℕ) → AllPairs (λ s t. s ≡ t → ⊥) (elim o [ None ↦ given_after fails steps taken es | Some s ↦ s ∷ given_after fails steps (taken ++ s ∷ []) es ])
    go same more None = same
    go same more (Some s) = AllPairs-cons (λ s t. s ≡ t → ⊥) s (given_after fails steps (taken ++ s ∷ []) es)
        (λ k d inside is. absurd (true≢false (sym (taken_here taken s) ∙ ap (is_taken (taken ++ s ∷ [])) is ∙ given_untaken fails steps (taken ++ s ∷ []) es k d inside)))
        (more s)
