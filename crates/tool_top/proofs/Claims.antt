-- Products are claimed in ascending order where each claim is made in its turn.
use Rattle.std.proofs.Common.{◌≡◌, ◌⊎◌, inl, inr, ℕ, zero, suc, ◌+◌, ◌<◌, ◌≤◌, Bool, true, false, cond, ◌||◌, not, nat_lt, ltb, List, [], ◌∷◌, ◌++◌, length, take, position, Option, Some, None, IsSome, is_some, slice_get, get_or, Contains, refl, ap, sym, ◌∙◌, subst, arith, eq-eqb, lt-ltb, append-nil}
use Rattle.std.specs.List.{flat_map, position_or_len}
use Rattle.std.specs.List.Sorted.{IsStrictlyIncreasing}
use Rattle.std.proofs.Math.Seq.{take-suc, take-length}
use Rattle.std.proofs.lemmas.Bool.{true≢false}
use Rattle.std.proofs.lemmas.Bool.Decides.{nat_tests}
use Rattle.std.proofs.lemmas.Grind.{flat_map-append}
use Rattle.std.proofs.lemmas.List.{get_or_append_left, get_or_push, length-append}
use Rattle.std.proofs.lemmas.List.Elements.{Contains-append_cases, Contains-get_or}
use Rattle.std.proofs.lemmas.Option.{slice_get-get_or}
use Rattle.pauli_product.specs.Signed.{Signed}
use Rattle.patch_layout.specs.Openness.{Least}
use Rattle.board_core.specs.declared.Entry.{Entry}
use Rattle.board_core.specs.declared.Entry.TheVariants.{Claim, Deliver, Release, Step, Settle}
use Rattle.board_core.specs.History.{History, is_claim_of, is_done_by, claim_place, done_place}
use Rattle.finish_run.specs.Next.{IsPending, NoneIs}
use Rattle.tool_top.specs.Serial.{claims_in, ClaimsAscend}

-- ---- the first element that passes a test
found : {A : Type 0} (b : Bool) (a : A) → is_some (cond b (Some a) None) ≡ b
found true a = refl
found false a = refl

place_of : {A : Type 0} (test : A → Bool) (xs : List A) → is_some (position test xs) ≡ nat_lt (position_or_len test xs) (length xs)
place_of test xs = found (nat_lt (position_or_len test xs) (length xs)) (position_or_len test xs)

one_less : (a b : ℕ) → ltb (1 + a) (suc b) ≡ ltb a b
one_less a b = grind (arith, nat_tests)

place-cons : {A : Type 0} (test : A → Bool) (x : A) (xs : List A) → is_some (position test (x ∷ xs)) ≡ (test x || is_some (position test xs))
place-cons test x xs = place_of test (x ∷ xs) ∙ go (test x) ∙ ap (λ b. test x || b) (sym (place_of test xs))
  where
    go : (b : Bool) → nat_lt (cond (not b) (1 + position_or_len test xs) 0) (suc (length xs)) ≡ (b || nat_lt (position_or_len test xs) (length xs))
    go true = lt-ltb 0 (suc (length xs)) (omega arith)
    go false = one_less (position_or_len test xs) (length xs)

either : (b c : Bool) → c ≡ true → (b || c) ≡ true
either true c t = refl
either false c t = t

place_behind : {A : Type 0} (test : A → Bool) (x : A) (xs : List A) → IsSome (position test xs) → IsSome (position test (x ∷ xs))
place_behind test x xs s = place-cons test x xs ∙ either (test x) (is_some (position test xs)) s

place_first : {A : Type 0} (test : A → Bool) (x : A) (xs : List A) → test x ≡ true → IsSome (position test (x ∷ xs))
place_first test x xs t = place-cons test x xs ∙ ap (λ (b : Bool). b || is_some (position test xs)) t

-- an element that passes still does where more follow
place_stays : {A : Type 0} (test : A → Bool) (xs ys : List A) → IsSome (position test xs) → IsSome (position test (xs ++ ys))
place_stays test [] ys s = absurd (true≢false (sym s))
place_stays test (x ∷ xs) ys s = go (test x) refl (λ later. place_stays test xs ys later)
  where
    go : (b : Bool) → test x ≡ b → (IsSome (position test xs) → IsSome (position test (xs ++ ys))) → IsSome (position test (x ∷ (xs ++ ys)))
    go true t stays = place_first test x (xs ++ ys) t
    go false t stays = place_behind test x (xs ++ ys) (stays (ap (λ (b : Bool). b || is_some (position test xs)) (sym t) ∙ sym (place-cons test x xs) ∙ s))

some_or_none : {A : Type 0} (o : Option A) → IsSome o ⊎ (o ≡ None)
some_or_none None = inr refl
some_or_none (Some a) = inl refl

not_both : {A : Type 0} (o : Option A) → IsSome o → o ≡ None → ⊥
not_both o s n = true≢false (sym s ∙ ap is_some n)

-- ---- claimed products
one_element : (p q : ℕ) → Contains (p ∷ []) q → p ≡ q
one_element p q (zero, l, e) = e
one_element p q (suc k, l, e) = absurd (omega arith)

no_element : (q : ℕ) → Contains [] q → ⊥
no_element q (k, l, e) = omega arith

claimed_first : (e : Entry) (h : History) (q : ℕ) → Contains (claims_in e) q → IsSome (claim_place (e ∷ h) q)
claimed_first (Claim p axis port state cells) h q c = place_first (is_claim_of q) (Claim p axis port state cells) h (eq-eqb p q (one_element p q c))
claimed_first (Deliver p g) h q c = absurd (no_element q c)
claimed_first (Release p) h q c = absurd (no_element q c)
claimed_first (Step f) h q c = absurd (no_element q c)
claimed_first (Settle p flip) h q c = absurd (no_element q c)

claimed_place : (h : History) (q : ℕ) → Contains (flat_map claims_in h) q → IsSome (claim_place h q)
claimed_place [] q c = absurd (no_element q c)
claimed_place (e ∷ h) q c = elim (Contains-append_cases (claims_in e) (flat_map claims_in h) q c) [
  | inl here ↦ claimed_first e h q here
  | inr later ↦ place_behind (is_claim_of q) e h (claimed_place h q later)
]

-- ---- one claim more
increasing_push : (xs : List ℕ) (p : ℕ) → IsStrictlyIncreasing xs → ((q : ℕ) → Contains xs q → q < p) → IsStrictlyIncreasing (xs ++ p ∷ [])
increasing_push xs p up below k l = elim (last (length-append xs (p ∷ [])) l) as (λ _. get_or (xs ++ p ∷ []) k 0 < get_or (xs ++ p ∷ []) (k + 1) 0) [
  | inl within ↦ rw (get_or_append_left xs (p ∷ []) 0 k (omega arith), get_or_append_left xs (p ∷ []) 0 (k + 1) within) (up k within)
  | inr end ↦ rw (get_or_append_left xs (p ∷ []) 0 k (omega arith), get_or_push xs p 0 (k + 1) end) (below (get_or xs k 0) (Contains-get_or xs k 0 (omega arith)))
]
  where
    last : {n : ℕ} → n ≡ length xs + 1 → k + 1 < n → (k + 1 < length xs) ⊎ (length xs ≡ k + 1)
    last {n} e l = grind arith

-- claims ascend, and each product below a claimed one is done
record Ascended (h : History) : Type 0 where
  ascend : ClaimsAscend h
  below : (q r : ℕ) → Contains (flat_map claims_in h) q → r < q → IsSome (done_place h r)

-- a claim is made where each claimed product is done, and all below it are
abbrev Turn : History → Entry → Type 0
Turn h (Claim p axis port state cells) = NoneIs (IsPending h) × Least (λ q. done_place h q ≡ None) p
Turn h (Deliver p g) = Unit {0}
Turn h (Release p) = Unit {0}
Turn h (Step f) = Unit {0}
Turn h (Settle p flip) = Unit {0}

done_stays : (h : History) (e : Entry) (r : ℕ) → IsSome (done_place h r) → IsSome (done_place (h ++ e ∷ []) r)
done_stays h e r s = place_stays (is_done_by r) h (e ∷ []) s

no_claim : (h : History) (e : Entry) → claims_in e ≡ [] → Ascended h → Ascended (h ++ e ∷ [])
no_claim h e none a =
    let same : flat_map claims_in (h ++ e ∷ []) ≡ flat_map claims_in h = flat_map-append claims_in h (e ∷ []) ∙ ap (λ xs. flat_map claims_in h ++ xs) (append-nil (claims_in e) ∙ none) ∙ append-nil (flat_map claims_in h) in
    record {
      ascend = subst IsStrictlyIncreasing (sym same) a.ascend;
      below = λ q r c l. done_stays h e r (a.below q r (subst (λ xs. Contains xs q) same c) l);
    }

-- every claimed product is below the one whose turn it is
before_turn : (h : History) (p q : ℕ) → Ascended h → NoneIs (IsPending h) → done_place h p ≡ None → Contains (flat_map claims_in h) q → q < p
before_turn h p q a idle undone c = elim (sides q p) as (λ _. q < p) [
  | inl less ↦ less
  | inr (inl same) ↦ absurd (idle q (claimed_place h q c, ap (done_place h) same ∙ undone))
  | inr (inr more) ↦ absurd (not_both (done_place h p) (a.below q p c more) undone)
]
  where
    sides : (q p : ℕ) → (q < p) ⊎ ((q ≡ p) ⊎ (p < q))
    sides q p = grind arith

done_below : (h : History) (p r : ℕ) → Least (λ q. done_place h q ≡ None) p → r < p → IsSome (done_place h r)
done_below h p r least l = elim (some_or_none (done_place h r)) [
  | inl s ↦ s
  | inr n ↦ absurd (least.1 r l n)
]

one_claim : (h : History) (p : ℕ) (axis : Signed) (port state : Option ℕ) (cells : List ℕ) → NoneIs (IsPending h) → Least (λ q. done_place h q ≡ None) p → Ascended h → Ascended (h ++ Claim p axis port state cells ∷ [])
one_claim h p axis port state cells idle least a =
    let e = Claim p axis port state cells in
    let same : flat_map claims_in (h ++ e ∷ []) ≡ flat_map claims_in h ++ p ∷ [] = flat_map-append claims_in h (e ∷ []) in
    record {
      ascend = subst IsStrictlyIncreasing (sym same) (increasing_push (flat_map claims_in h) p a.ascend (λ q c. before_turn h p q a idle least.0 c));
      below = λ q r c l. done_stays h e r (elim (Contains-append_cases (flat_map claims_in h) (p ∷ []) q (subst (λ xs. Contains xs q) same c)) [
        | inl earlier ↦ a.below q r earlier l
        | inr here ↦ done_below h p r least (let is = one_element p q here in omega arith)
      ]);
    }

ascended_push : (h : History) (e : Entry) → Turn h e → Ascended h → Ascended (h ++ e ∷ [])
ascended_push h (Claim p axis port state cells) t a = one_claim h p axis port state cells t.0 t.1 a
ascended_push h (Deliver p g) t a = no_claim h (Deliver p g) refl a
ascended_push h (Release p) t a = no_claim h (Release p) refl a
ascended_push h (Step f) t a = no_claim h (Step f) refl a
ascended_push h (Settle p flip) t a = no_claim h (Settle p flip) refl a

nothing_yet : Ascended []
nothing_yet = record {
  ascend = λ k l. absurd (omega arith);
  below = λ q r c l. absurd (no_element q c);
}

ascended : (h : History) → ((n : ℕ) (e : Entry) → slice_get h n ≡ Some e → Turn (take n h) e) → (n : ℕ) → n ≤ length h → Ascended (take n h)
ascended h turns zero l = nothing_yet
ascended h turns (suc n) l =
    let d : Entry = Step 0 in
    let within : n < length h = omega arith in
    subst Ascended (sym (take-suc h n d within))
    (ascended_push (take n h) (get_or h n d) (turns n (get_or h n d) (slice_get-get_or h n d within)) (ascended h turns n (omega arith)))

pub claims_ascend : (h : History) → ((n : ℕ) (p : ℕ) (axis : Signed) (port state : Option ℕ) (cells : List ℕ) → slice_get h n ≡ Some (Claim p axis port state cells) → NoneIs (IsPending (take n h)) × Least (λ q. done_place (take n h) q ≡ None) p) → ClaimsAscend h
claims_ascend h claims = subst ClaimsAscend (take-length h) (ascended h turns (length h) (omega arith)).ascend
  where
    turns : (n : ℕ) (e : Entry) → slice_get h n ≡ Some e → Turn (take n h) e
    turns n (Claim p axis port state cells) at = claims n p axis port state cells at
    turns n (Deliver p g) at = tt
    turns n (Release p) at = tt
    turns n (Step f) at = tt
    turns n (Settle p flip) at = tt
