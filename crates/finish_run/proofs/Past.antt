-- What a legal history says of its products, and what one entry more makes of that.
use Rattle.std.proofs.Common.{◌≡◌, ◌⊎◌, inl, inr, ℕ, zero, suc, Bool, true, false, ◌||◌, if◌then◌else◌, List, [], ◌∷◌, ◌++◌, length, take, position, slice_get, Option, Some, None, IsSome, IsTrue, ◌↔◌, is_some, refl, ap, sym, ◌∙◌, subst, eq-eqb, eqb-true}
use Rattle.std.proofs.lemmas.Bool.{true≢false}
use Rattle.std.proofs.lemmas.Option.{same_Some, none-some}
use Rattle.source_model.specs.declared.Given.{Given}
use Rattle.source_model.specs.declared.Kind.{Kind}
use Rattle.source_model.specs.declared.Kind.TheVariants as kind
use Rattle.source_model.specs.declared.Static.{Static}
use Rattle.board_core.specs.declared.Entry.{Entry}
use Rattle.board_core.specs.declared.Entry.TheVariants.{Claim, Deliver, Release, Step, Settle}
use Rattle.board_core.specs.History.{History, is_claim_of, is_done_by, is_release_of, claim_place, done_place, release_place, delivered, delivery_in}
use Rattle.board_core.specs.Legal.{BoardJob, Allowed, Legal, Holds, IsKind, TakesState}
use Rattle.board_core.specs.declared.board.Standing.{Standing}
use Rattle.board_core.specs.Books.{TakesRegion, standing_of}
use Rattle.board_core.specs.Position.{Position, past, with_entry}
use Rattle.board_core.proofs.Places.{or_else, some_of, place_cons, delivered-append, delivered_done, done_stands}
use Rattle.board_core.proofs.Standings.{place_comes, place_found, found_at, claims_are, some_push}
use Rattle.board_core.proofs.LegalOrder.{delivered_at}
use Rattle.board_core.proofs.Going.{some_take}
use Rattle.board_core.proofs.KeptLegal.{entries_push}
use Rattle.finish_run.specs.Next.{IsPending, IsUnreleased, IsIdle}

pub past_push : (b c : Position) (e : Entry) → c ≡ with_entry b 0 e → past c ≡ past b ++ e ∷ []
past_push b c e is = ap past is ∙ entries_push b.history 0 e

pub not_both : {A : Type 0} (o : Option A) → IsSome o → o ≡ None → ⊥
not_both o s n = true≢false (sym s ∙ ap is_some n)

-- ---- where entries stand
place_there : {A : Type 0} (test : A → Bool) (xs : List A) (k : ℕ) (x : A) → slice_get xs k ≡ Some x → test x ≡ true → IsSome (position test xs)
place_there test [] k x at t = absurd (none-some x at)
place_there test (y ∷ ys) zero x at t = place_cons test y ys ∙ ap (λ (b : Bool). b || is_some (position test ys)) (ap test (same_Some y x at) ∙ t)
place_there test (y ∷ ys) (suc k) x at t = place_cons test y ys ∙ go (test y) (place_there test ys k x at t)
  where
    go : (b : Bool) → is_some (position test ys) ≡ true → (b || is_some (position test ys)) ≡ true
    go true s = refl
    go false s = s

dones_are : (p : ℕ) (e : Entry) → is_done_by p e ≡ true → ((g : Given) × (e ≡ Deliver p g)) ⊎ ((flip : Bool) × (e ≡ Settle p flip))
dones_are p (Claim q axis port state cells) t = absurd (true≢false (sym t))
dones_are p (Deliver q g) t = inl (g, ap (λ (r : ℕ). Deliver r g) (eqb-true q p t))
dones_are p (Release q) t = absurd (true≢false (sym t))
dones_are p (Step f) t = absurd (true≢false (sym t))
dones_are p (Settle q flip) t = inr (flip, ap (λ (r : ℕ). Settle r flip) (eqb-true q p t))

delivered_there : (h : History) (k q : ℕ) (g : Given) → slice_get h k ≡ Some (Deliver q g) → IsSome (delivered h q)
delivered_there [] k q g at = absurd (none-some (Deliver q g) at)
delivered_there (e ∷ h) zero q g at =
    ap (λ (x : Entry). is_some (delivered (x ∷ h) q)) (same_Some e (Deliver q g) at) ∙ ap (λ (b : Bool). is_some (elim (if b then Some g else None) [ None ↦ delivered h q | Some y ↦ Some y ])) (eq-eqb q q refl)
delivered_there (e ∷ h) (suc k) q g at = go (delivery_in q e) (delivered_there h k q g at)
  where
    go : (o : Option Given) → IsSome (delivered h q) → is_some (elim o [ None ↦ delivered h q | Some y ↦ Some y ]) ≡ true
    go None s = s
    go (Some y) s = refl

-- ---- a product that is claimed, delivered or done
region_of : (j : BoardJob) (h : History) (k : Kind) (through state : Option ℕ) → TakesState j h k through state → TakesRegion k
region_of j h kind.Rotation through state t = tt
region_of j h (kind.Measure bit) through state t = tt
region_of j h (kind.Settle first size value) through state t = t

region_kind : (k : Kind) (g : Given) → IsKind k g → TakesRegion k
region_kind kind.Rotation g t = tt
region_kind (kind.Measure bit) g t = tt
region_kind (kind.Settle first size value) g t = t

no_region : (k : Kind) (first size value : ℕ) → k ≡ kind.Settle first size value → TakesRegion k → ⊥
no_region k first size value e t = subst TakesRegion e t

pub claimed_product : (j : BoardJob) (h : History) (q : ℕ) → Legal j h → IsSome (claim_place h q) → (s : Static) × (slice_get j.products q ≡ Some s) × TakesRegion s.kind
claimed_product j h q legal s =
    let k = some_of (claim_place h q) s in
    let at = found_at (is_claim_of q) h k.0 k.1 in
    let is = claims_are q at.0 at.2 in
    let a : Allowed j (take k.0 h) (Claim q is.0 is.1 is.2 is.3) = subst (Allowed j (take k.0 h)) is.4 (legal k.0 at.0 at.1) in
    (a.product.0, a.product.1, region_of j (take k.0 h) a.product.0.kind is.1 is.2 a.product.2)

-- what was delivered is claimed and done
pub delivered_is : (j : BoardJob) (h : History) (q : ℕ) → Legal j h → IsSome (delivered h q) → IsSome (claim_place h q) × IsSome (done_place h q)
delivered_is j h q legal s =
    let g = some_of (delivered h q) s in
    let at = delivered_at h q g.0 g.1 in
    let a = legal at.0 (Deliver q g.0) at.1 in
    (some_take (is_claim_of q) h at.0 a.0, done_stands h q ∙ delivered_done h q s)

-- a product that is done was delivered, or takes no region
pub done_is : (j : BoardJob) (h : History) (q : ℕ) → Legal j h → IsSome (done_place h q) → (s : Static) × (slice_get j.products q ≡ Some s) × (IsSome (delivered h q) ⊎ (TakesRegion s.kind → ⊥))
done_is j h q legal s =
    let k = some_of (done_place h q) s in
    let at = found_at (is_done_by q) h k.0 k.1 in
    elim (dones_are q at.0 at.2) as (λ _. (s : Static) × (slice_get j.products q ≡ Some s) × (IsSome (delivered h q) ⊎ (TakesRegion s.kind → ⊥))) [
      | inl d ↦ (
          let a : Allowed j (take k.0 h) (Deliver q d.0) = subst (Allowed j (take k.0 h)) d.1 (legal k.0 at.0 at.1) in
          (a.2.0, a.2.1, inl (delivered_there h k.0 q d.0 (at.1 ∙ ap Some d.1))))
      | inr d ↦ (
          let a : Allowed j (take k.0 h) (Settle q d.0) = subst (Allowed j (take k.0 h)) d.1 (legal k.0 at.0 at.1) in
          let f = a.2 in
          (f.0, f.4, inr (no_region f.0.kind f.1 f.2 f.3 f.5)))
    ]

-- a claimed product that is done was delivered
pub claimed_done : (j : BoardJob) (h : History) (q : ℕ) → Legal j h → IsSome (claim_place h q) → IsSome (done_place h q) → IsSome (delivered h q)
claimed_done j h q legal c d =
    let x = claimed_product j h q legal c in
    let y = done_is j h q legal d in
    elim y.2 [
      | inl s ↦ s
      | inr without ↦ absurd (without (subst (λ (s : Static). TakesRegion s.kind) (same_Some x.0 y.0 (sym x.1 ∙ y.1)) x.2))
    ]

pub some_or_none : {A : Type 0} (o : Option A) → IsSome o ⊎ (o ≡ None)
some_or_none None = inr refl
some_or_none (Some a) = inl refl

-- where each claimed product is delivered and released, nothing is held
pub nothing_held : (j : BoardJob) (h : History) → Legal j h → IsIdle h → (q c : ℕ) → Holds j.grid h q c → ⊥
nothing_held j h legal idle q c x =
    let claimed = place_there (is_claim_of q) h x.0 (Claim q x.1 x.2 x.3 x.4) x.5 (eq-eqb q q refl) in
    elim (some_or_none (done_place h q)) [
      | inl d ↦ idle.1 q (claimed_done j h q legal claimed d, x.6)
      | inr n ↦ idle.0 q (claimed, n)
    ]

-- ---- one entry more
none_before : {A : Type 0} (test : A → Bool) (xs : List A) (y : A) → position test (xs ++ y ∷ []) ≡ None → (position test xs ≡ None) × (test y ≡ false)
none_before test xs y n = go (position test xs) refl (test y) refl
  where
    go : (o : Option ℕ) → position test xs ≡ o → (b : Bool) → test y ≡ b → (position test xs ≡ None) × (test y ≡ false)
    go (Some k) e b t = absurd (none-some k (sym n ∙ place_found test xs y k e))
    go None e true t = absurd (none-some (length xs) (sym n ∙ place_comes test xs y t e))
    go None e false t = (e, t)

pub done_stays : (h : History) (e : Entry) (q : ℕ) → IsSome (done_place h q) → IsSome (done_place (h ++ e ∷ []) q)
done_stays h e q s = let k = some_of (done_place h q) s in ap is_some (place_found (is_done_by q) h e k.0 k.1)

pub done_now : (h : History) (e : Entry) (q : ℕ) → is_done_by q e ≡ true → IsSome (done_place (h ++ e ∷ []) q)
done_now h e q t = elim (some_or_none (done_place h q)) [
  | inl s ↦ done_stays h e q s
  | inr n ↦ ap is_some (place_comes (is_done_by q) h e t n)
]

pub pending_push : (h : History) (e : Entry) (q : ℕ) → IsPending (h ++ e ∷ []) q → (is_done_by q e ≡ false) × (IsPending h q ⊎ (is_claim_of q e ≡ true))
pending_push h e q x =
    let n = none_before (is_done_by q) h e x.1 in
    (n.1, elim (some_push (is_claim_of q) h e x.0) [ inl s ↦ inl (s, n.0) | inr t ↦ inr t ])

pub unreleased_push : (h : History) (e : Entry) (q : ℕ) → IsUnreleased (h ++ e ∷ []) q → (is_release_of q e ≡ false) × (IsUnreleased h q ⊎ IsSome (delivered (e ∷ []) q))
unreleased_push h e q x =
    let n = none_before (is_release_of q) h e x.1 in
    (n.1, go (delivered h q) refl)
  where
    before : release_place h q ≡ None
    before = (none_before (is_release_of q) h e x.1).0

    go : (o : Option Given) → delivered h q ≡ o → IsUnreleased h q ⊎ IsSome (delivered (e ∷ []) q)
    go (Some g) s = inl (ap is_some s, before)
    go None s = inr (sym (ap is_some (delivered-append h (e ∷ []) q ∙ ap (λ (o : Option Given). or_else o (delivered (e ∷ []) q)) s)) ∙ x.0)

-- ---- by the places that a board notes
pub unreleased_by_places : (j : BoardJob) (h : History) (q : ℕ) (s : Standing) (r : Bool) → Legal j h → s ≡ standing_of h q → IsTrue r ↔ (IsSome s.claim × IsSome s.deliver × (s.release ≡ None)) → IsTrue r ↔ IsUnreleased h q
unreleased_by_places j h q s r legal e i = (
  λ t.
      let x = subst (λ (z : Standing). IsSome z.claim × IsSome z.deliver × (z.release ≡ None)) e (i.0 t) in
      (claimed_done j h q legal x.0 x.1, x.2),
  λ x.
      let d = delivered_is j h q legal x.0 in
      i.1 (subst (λ (z : Standing). IsSome z.claim × IsSome z.deliver × (z.release ≡ None)) (sym e) (d.0, d.1, x.1)),
)
