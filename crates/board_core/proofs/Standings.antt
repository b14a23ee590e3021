-- The places of a product's entries, after one entry more.
use Rattle.std.proofs.Common.{◌≡◌, ◌⊎◌, inl, inr, ℕ, suc, ◌+◌, Bool, true, false, cond, not, nat_lt, ltb, if◌then◌else◌, List, [], ◌∷◌, ◌++◌, length, position, option_map, Option, Some, None, is_some, slice_get, refl, ap, sym, ◌∙◌, arith, eqb-true, lt-ltb}
use Rattle.std.specs.List.{position_or_len}
use Rattle.std.proofs.lemmas.Bool.{true≢false}
use Rattle.std.proofs.lemmas.Bool.Decides.{nat_tests}
use Rattle.std.proofs.lemmas.Option.{same_Some, none-some}
use Rattle.pauli_product.specs.Signed.{Signed}
use Rattle.board_core.specs.declared.Entry.{Entry}
use Rattle.board_core.specs.declared.Entry.TheVariants.{Claim, Deliver, Release, Settle}
use Rattle.board_core.specs.declared.Entry.TheVariants as entry
use Rattle.board_core.specs.History.{is_claim_of, is_release_of}

-- ---- the first place at which a test passes
one_less : (a b : ℕ) → ltb (1 + a) (suc b) ≡ ltb a b
one_less a b = grind (arith, nat_tests)

shifted : (b : Bool) (k : ℕ) → cond b (Some (1 + k)) None ≡ option_map suc (cond b (Some k) None)
shifted true k = ap Some (let e : 1 + k ≡ suc k = omega arith in e)
shifted false k = refl

place-cons : {A : Type 0} (test : A → Bool) (x : A) (xs : List A) → position test (x ∷ xs) ≡ cond (test x) (Some 0) (option_map suc (position test xs))
place-cons test x xs = go (test x)
  where
    go : (b : Bool) → cond (nat_lt (cond (not b) (1 + position_or_len test xs) 0) (suc (length xs))) (Some (cond (not b) (1 + position_or_len test xs) 0)) None ≡ cond b (Some 0) (option_map suc (position test xs))
    go true = ap (λ t. cond t (Some 0) None) (lt-ltb 0 (suc (length xs)) (omega arith))
    go false = ap (λ t. cond t (Some (1 + position_or_len test xs)) None) (one_less (position_or_len test xs) (length xs)) ∙ shifted (nat_lt (position_or_len test xs) (length xs)) (position_or_len test xs)

abbrev later : {A : Type 0} → (A → Bool) → A → ℕ → Option ℕ → Option ℕ
later test y n (Some k) = Some k
later test y n None = if test y then Some n else None

pub place_push : {A : Type 0} (test : A → Bool) (xs : List A) (y : A) → position test (xs ++ y ∷ []) ≡ later test y (length xs) (position test xs)
place_push test [] y = place-cons test y []
place_push test (x ∷ xs) y =
    place-cons test x (xs ++ y ∷ [])
    ∙ ap (λ o. cond (test x) (Some 0) (option_map suc o)) (place_push test xs y)
    ∙ go (test x) (position test xs)
    ∙ ap (later test y (suc (length xs))) (sym (place-cons test x xs))
  where
    pushed : (b : Bool) → option_map suc (if b then Some (length xs) else None) ≡ (if b then Some (suc (length xs)) else None)
    pushed true = refl
    pushed false = refl

    go : (b : Bool) (o : Option ℕ) → cond b (Some 0) (option_map suc (later test y (length xs) o)) ≡ later test y (suc (length xs)) (cond b (Some 0) (option_map suc o))
    go true o = refl
    go false (Some k) = refl
    go false None = pushed (test y)

-- an entry that doesn't pass changes no place, and one that does comes last
pub place_stays : {A : Type 0} (test : A → Bool) (xs : List A) (y : A) → test y ≡ false → position test (xs ++ y ∷ []) ≡ position test xs
place_stays test xs y e = place_push test xs y ∙ go (position test xs)
  where
    go : (o : Option ℕ) → later test y (length xs) o ≡ o
    go (Some k) = refl
    go None = ap (λ b. if b then Some (length xs) else None) e

pub place_comes : {A : Type 0} (test : A → Bool) (xs : List A) (y : A) → test y ≡ true → position test xs ≡ None → position test (xs ++ y ∷ []) ≡ Some (length xs)
place_comes test xs y e n = place_push test xs y ∙ ap (later test y (length xs)) n ∙ ap (λ b. if b then Some (length xs) else None) e

pub place_found : {A : Type 0} (test : A → Bool) (xs : List A) (y : A) (k : ℕ) → position test xs ≡ Some k → position test (xs ++ y ∷ []) ≡ Some k
place_found test xs y k e = place_push test xs y ∙ ap (later test y (length xs)) e

-- what stands at the place
pub found_at : {A : Type 0} (test : A → Bool) (xs : List A) (k : ℕ) → position test xs ≡ Some k → (x : A) × (slice_get xs k ≡ Some x) × (test x ≡ true)
found_at test [] k e = absurd (none-some k e)
found_at {A = A} test (x ∷ xs) k e = go (test x) refl (position test xs) refl (found_at test xs) (sym (place-cons test x xs) ∙ e)
  where
    go : (b : Bool) → test x ≡ b → (o : Option ℕ) → position test xs ≡ o → ((m : ℕ) → position test xs ≡ Some m → (y : A) × (slice_get xs m ≡ Some y) × (test y ≡ true)) → cond b (Some 0) (option_map suc o) ≡ Some k → (y : A) × (slice_get (x ∷ xs) k ≡ Some y) × (test y ≡ true)
    go true t o f more s = rw (← (same_Some 0 k s)) (x, refl, t)
    go false t None f more s = absurd (none-some k s)
    go false t (Some m) f more s = rw (← (same_Some (suc m) k s)) (more m f)

pub claims_are : (p : ℕ) (e : Entry) → is_claim_of p e ≡ true → (axis : Signed) × (through : Option ℕ) × (state : Option ℕ) × (cells : List ℕ) × (e ≡ Claim p axis through state cells)
claims_are p (Claim q axis through state cells) t = (axis, through, state, cells, ap (λ r. Claim r axis through state cells) (eqb-true q p t))
claims_are p (Deliver q g) t = absurd (true≢false (sym t))
claims_are p (Release q) t = absurd (true≢false (sym t))
claims_are p (entry.Step f) t = absurd (true≢false (sym t))
claims_are p (Settle q flip) t = absurd (true≢false (sym t))

pub releases_are : (p : ℕ) (e : Entry) → is_release_of p e ≡ true → e ≡ Release p
releases_are p (Claim q axis through state cells) t = absurd (true≢false (sym t))
releases_are p (Deliver q g) t = absurd (true≢false (sym t))
releases_are p (Release q) t = ap Release (eqb-true q p t)
releases_are p (entry.Step f) t = absurd (true≢false (sym t))
releases_are p (Settle q flip) t = absurd (true≢false (sym t))

-- what passes after one entry more passed before, or is it
pub some_push : {A : Type 0} (test : A → Bool) (xs : List A) (y : A) → is_some (position test (xs ++ y ∷ [])) ≡ true → (is_some (position test xs) ≡ true) ⊎ (test y ≡ true)
some_push test xs y s = go (position test xs) refl (test y) refl
  where
    go : (o : Option ℕ) → position test xs ≡ o → (b : Bool) → test y ≡ b → (is_some (position test xs) ≡ true) ⊎ (test y ≡ true)
    go (Some k) e b t = inl (ap is_some e)
    go None e true t = inr t
    go None e false t = absurd (true≢false (sym s ∙ ap is_some (place_stays test xs y t ∙ e)))
