-- What stands in a history: who is claimed and done, and one more entry.
use Rattle.std.proofs.Common.{◌≡◌, ℕ, suc, ◌+◌, Bool, true, false, cond, ◌==◌, ◌||◌, not, nat_lt, ltb, if◌then◌else◌, List, [], ◌∷◌, ◌++◌, length, position, Option, Some, None, is_some, refl, ap, sym, ◌∙◌, arith, append-nil, append_assoc, lt-ltb}
use Rattle.std.specs.List.{position_or_len}
use Rattle.std.proofs.lemmas.Bool.{or_right, true≢false}
use Rattle.std.proofs.lemmas.Bool.Decides.{nat_tests}
use Rattle.std.proofs.lemmas.Grind.{flat_map-append}
use Rattle.pauli_product.specs.Signed.{Signed}
use Rattle.pauli_product.specs.Pulls.{Turn}
use Rattle.source_model.specs.declared.Given.{Given}
use Rattle.source_model.specs.declared.Static.{Static}
use Rattle.trace_laws.specs.Orders.{stands}
use Rattle.board_core.specs.declared.Entry.{Entry}
use Rattle.board_core.specs.declared.Entry.TheVariants.{Claim, Deliver, Release, Settle}
use Rattle.board_core.specs.declared.Entry.TheVariants as entry
use Rattle.board_core.specs.History.{History, delivery_in, delivered, is_claim_of, is_done_by, claim_place, done_place}
use Rattle.board_core.specs.Orders.{done_in, done_of}
use Rattle.board_core.specs.View.{claimed_in, claimed_axis, turns_by, turns_after, turns_of}

-- ---- places
found : {A : Type 0} (b : Bool) (a : A) → is_some (cond b (Some a) None) ≡ b
found true a = refl
found false a = refl

place_of : {A : Type 0} (test : A → Bool) (xs : List A) → is_some (position test xs) ≡ nat_lt (position_or_len test xs) (length xs)
place_of test xs = found (nat_lt (position_or_len test xs) (length xs)) (position_or_len test xs)

one_less : (a b : ℕ) → ltb (1 + a) (suc b) ≡ ltb a b
one_less a b = grind (arith, nat_tests)

pub place_cons : {A : Type 0} (test : A → Bool) (x : A) (xs : List A) → is_some (position test (x ∷ xs)) ≡ (test x || is_some (position test xs))
place_cons test x xs = place_of test (x ∷ xs) ∙ go (test x) ∙ ap (λ b. test x || b) (sym (place_of test xs))
  where
    go : (b : Bool) → nat_lt (cond (not b) (1 + position_or_len test xs) 0) (suc (length xs)) ≡ (b || nat_lt (position_or_len test xs) (length xs))
    go true = lt-ltb 0 (suc (length xs)) (omega arith)
    go false = one_less (position_or_len test xs) (length xs)

pub done_stands : (h : History) (p : ℕ) → is_some (done_place h p) ≡ stands p (done_of h)
done_stands [] p = refl
done_stands (e ∷ es) p = place_cons (is_done_by p) e es ∙ ap (λ b. is_done_by p e || b) (done_stands es p) ∙ go e
  where
    go : (e : Entry) → (is_done_by p e || stands p (done_of es)) ≡ stands p (done_in e ++ done_of es)
    go (Claim q axis port state cells) = refl
    go (Deliver q g) = refl
    go (Release q) = refl
    go (entry.Step f) = refl
    go (Settle q flip) = refl

pub claimed_place : (h : History) (p : ℕ) → is_some (claim_place h p) ≡ is_some (claimed_axis h p)
claimed_place [] p = refl
claimed_place (e ∷ es) p = place_cons (is_claim_of p) e es ∙ ap (λ b. is_claim_of p e || b) (claimed_place es p) ∙ go e
  where
    at : (b : Bool) (axis : Signed) (o : Option Signed) → (b || is_some o) ≡ is_some (elim (if b then Some axis else None) [ None ↦ o | Some a ↦ Some a ])
    at true axis o = refl
    at false axis o = refl

    go : (e : Entry) → (is_claim_of p e || is_some (claimed_axis es p)) ≡ is_some (claimed_axis (e ∷ es) p)
    go (Claim q axis port state cells) = at (q == p) axis (claimed_axis es p)
    go (Deliver q g) = refl
    go (Release q) = refl
    go (entry.Step f) = refl
    go (Settle q flip) = refl

pub some_of : {A : Type 0} (o : Option A) → is_some o ≡ true → (a : A) × (o ≡ Some a)
some_of None e = absurd (true≢false (sym e))
some_of (Some a) e = (a, refl)

pub none_of : {A : Type 0} (o : Option A) → is_some o ≡ false → o ≡ None
none_of None e = refl
none_of (Some a) e = absurd (true≢false e)

-- ---- one more entry
abbrev pub or_else : {A : Type 0} → Option A → Option A → Option A
or_else None o = o
or_else (Some a) o = Some a

pub claimed-append : (h es : History) (p : ℕ) → claimed_axis (h ++ es) p ≡ or_else (claimed_axis h p) (claimed_axis es p)
claimed-append [] es p = refl
claimed-append (e ∷ h) es p = go (claimed_in p e) (claimed-append h es p)
  where
    go : (o : Option Signed) → claimed_axis (h ++ es) p ≡ or_else (claimed_axis h p) (claimed_axis es p) → (elim o [ None ↦ claimed_axis (h ++ es) p | Some a ↦ Some a ]) ≡ or_else (elim o [ None ↦ claimed_axis h p | Some a ↦ Some a ]) (claimed_axis es p)
    go None k = k
    go (Some a) k = refl

pub delivered-append : (h es : History) (p : ℕ) → delivered (h ++ es) p ≡ or_else (delivered h p) (delivered es p)
delivered-append [] es p = refl
delivered-append (e ∷ h) es p = go (delivery_in p e) (delivered-append h es p)
  where
    go : (o : Option Given) → delivered (h ++ es) p ≡ or_else (delivered h p) (delivered es p) → (elim o [ None ↦ delivered (h ++ es) p | Some a ↦ Some a ]) ≡ or_else (elim o [ None ↦ delivered h p | Some a ↦ Some a ]) (delivered es p)
    go None k = k
    go (Some a) k = refl

pub done-push : (h : History) (e : Entry) → done_of (h ++ e ∷ []) ≡ done_of h ++ done_in e
done-push h e = flat_map-append done_in h (e ∷ []) ∙ ap (λ x. done_of h ++ x) (append-nil (done_in e))

turns_after-push : (products : List Static) (before : History) (turns : List Turn) (h : History) (e : Entry) → turns_after products before turns (h ++ e ∷ []) ≡ turns_after products before turns h ++ turns_by products (before ++ h) (turns_after products before turns h) e
turns_after-push products before turns [] e = ap (λ b. turns ++ turns_by products b turns e) (sym (append-nil before))
turns_after-push products before turns (x ∷ h) e =
    let more = turns ++ turns_by products before turns x in
    turns_after-push products (before ++ x ∷ []) more h e
    ∙ ap (λ b. turns_after products (before ++ x ∷ []) more h ++ turns_by products b (turns_after products (before ++ x ∷ []) more h) e) (append_assoc before (x ∷ []) h)

pub turns-push : (products : List Static) (h : History) (e : Entry) → turns_of products (h ++ e ∷ []) ≡ turns_of products h ++ turns_by products h (turns_of products h) e
turns-push products h e = turns_after-push products [] [] h e

-- what was delivered is done
pub delivered_done : (h : History) (p : ℕ) → is_some (delivered h p) ≡ true → stands p (done_of h) ≡ true
delivered_done [] p e = absurd (true≢false (sym e))
delivered_done (Claim q axis port state cells ∷ es) p e = delivered_done es p e
delivered_done (Deliver q g ∷ es) p e =
    go (q == p) (delivered_done es p) e
  where
    go : (b : Bool) → (is_some (delivered es p) ≡ true → stands p (done_of es) ≡ true) → is_some (elim (if b then Some g else None) [ None ↦ delivered es p | Some a ↦ Some a ]) ≡ true → (b || stands p (done_of es)) ≡ true
    go true k f = refl
    go false k f = k f
delivered_done (Release q ∷ es) p e = delivered_done es p e
delivered_done (entry.Step f ∷ es) p e = delivered_done es p e
delivered_done (Settle q flip ∷ es) p e = or_right (q == p) (stands p (done_of es)) (delivered_done es p e)
