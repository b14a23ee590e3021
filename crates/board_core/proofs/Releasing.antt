-- When a release is allowed, by a product's kind and its places.
use Rattle.std.proofs.Common.{◌≡◌, ℕ, zero, suc, ◌<◌, Bool, true, false, ◌==◌, [], ◌∷◌, length, take, Option, Some, None, is_some, IsSome, slice_get, refl, ap, sym, ◌∙◌, eq-eqb, eqb-true, subst, if◌then◌else◌}
use Rattle.std.proofs.lemmas.Bool.{true≢false}
use Rattle.std.proofs.lemmas.Option.{same_Some, none-some, slice_get_within}
use Rattle.source_model.specs.declared.Given.{Given}
use Rattle.source_model.specs.declared.Kind.{Kind}
use Rattle.source_model.specs.declared.Kind.TheVariants as kind
use Rattle.source_model.specs.declared.Static.{Static}
use Rattle.board_core.specs.declared.Entry.{Entry}
use Rattle.board_core.specs.declared.Entry.TheVariants.{Claim, Deliver, Release, Settle}
use Rattle.board_core.specs.declared.Entry.TheVariants as entry
use Rattle.board_core.specs.History.{History, delivered, is_done_by, done_place, release_place}
use Rattle.board_core.specs.Legal.{BoardJob, Allowed, IsKind, FlipOf, Legal}
use Rattle.std.specs.Option.{MatchOption}
use Rattle.board_core.specs.Position.{Position, past}
use Rattle.board_core.specs.Books.{TakesRegion, standing_of}
use Rattle.board_core.specs.Causes.{IsProduct, ReleaseRefusedBecause}
use Rattle.board_core.specs.inside.Judging.{by_places, why_not_released}
use Rattle.board_core.proofs.Places.{some_of, none_of, delivered_done, done_stands}
use Rattle.board_core.proofs.LegalOrder.{delivered_at}
use Rattle.board_core.proofs.Standings.{found_at}

-- an outcome that stands in a history is delivered
delivery_stands : (h : History) (k p : ℕ) (g : Given) → slice_get h k ≡ Some (Deliver p g) → IsSome (delivered h p)
delivery_stands [] k p g e = absurd (none-some (Deliver p g) e)
delivery_stands (e ∷ es) zero p g s = subst (λ x. IsSome (delivered (x ∷ es) p)) (sym (same_Some e (Deliver p g) s)) (itself (p == p) (eq-eqb p p refl))
  where
    itself : (b : Bool) → b ≡ true → is_some (elim (if b then Some g else None) [ None ↦ delivered es p | Some y ↦ Some y ]) ≡ true
    itself true t = refl
    itself false t = absurd (true≢false (sym t))
delivery_stands (e ∷ es) (suc k) p g s = behind e (delivery_stands es k p g s)
  where
    one : (b : Bool) (x : Given) → is_some (delivered es p) ≡ true → is_some (elim (if b then Some x else None) [ None ↦ delivered es p | Some y ↦ Some y ]) ≡ true
    one true x t = refl
    one false x t = t

    behind : (e : Entry) → is_some (delivered es p) ≡ true → is_some (delivered (e ∷ es) p) ≡ true
    behind (Claim q axis through state cells) t = t
    behind (Deliver q x) t = one (q == p) x t
    behind (Release q) t = t
    behind (entry.Step f) t = t
    behind (Settle q flip) t = t

no_kind : (k : Kind) (g : Given) → (TakesRegion k → ⊥) → IsKind k g → ⊥
no_kind kind.Rotation g n i = n tt
no_kind (kind.Measure bit) g n i = n tt
no_kind (kind.Settle first size value) g n i = i

-- a settled product has no delivery
pub settled_undelivered : (j : BoardJob) (h : History) (p : ℕ) (s : Static) → Legal j h → slice_get j.products p ≡ Some s → (TakesRegion s.kind → ⊥) → delivered h p ≡ None
settled_undelivered j h p s legal e n = none_of (delivered h p) (go (delivered h p) refl)
  where
    go : (o : Option Given) → delivered h p ≡ o → is_some (delivered h p) ≡ false
    go None f = ap is_some f
    go (Some g) f =
        let d = delivered_at h p g f in
        let a = legal d.0 (Deliver p g) d.1 in
        absurd (no_kind s.kind g n (subst (λ (t : Static). IsKind t.kind g) (same_Some a.2.0 s (sym a.2.1 ∙ e)) a.2.2))

-- what isn't done isn't delivered
pub undone_undelivered : (h : History) (p : ℕ) → done_place h p ≡ None → delivered h p ≡ None
undone_undelivered h p n = none_of (delivered h p) (go (delivered h p) refl)
  where
    go : (o : Option Given) → delivered h p ≡ o → is_some (delivered h p) ≡ false
    go None f = ap is_some f
    go (Some g) f = absurd (true≢false (sym (done_stands h p ∙ delivered_done h p (ap is_some f)) ∙ ap is_some n))

settle_kind : (j : BoardJob) (h : History) (p : ℕ) (flip : Bool) (s : Static) → slice_get j.products p ≡ Some s → TakesRegion s.kind → FlipOf j h p flip → ⊥
settle_kind j h p flip s e t f =
    let same = same_Some s f.0 (sym e ∙ f.4) in
    subst TakesRegion (ap (λ (x : Static). x.kind) same ∙ f.5) t

-- a done product with a region is delivered
pub done_delivered : (j : BoardJob) (h : History) (p k : ℕ) (s : Static) → Legal j h → slice_get j.products p ≡ Some s → TakesRegion s.kind → done_place h p ≡ Some k → IsSome (delivered h p)
done_delivered j h p k s legal e t d =
    let at = found_at (is_done_by p) h k d in
    go at.0 at.1 at.2
  where
    go : (x : Entry) → slice_get h k ≡ Some x → is_done_by p x ≡ true → IsSome (delivered h p)
    go (Claim q axis through state cells) f b = absurd (true≢false (sym b))
    go (Deliver q g) f b = delivery_stands h k p g (f ∙ ap (λ r. Some (Deliver r g)) (eqb-true q p b))
    go (Release q) f b = absurd (true≢false (sym b))
    go (entry.Step m) f b = absurd (true≢false (sym b))
    go (Settle q flip) f b = absurd (settle_kind j (take k h) p flip s e t (subst (λ r. FlipOf j (take k h) r flip) (eqb-true q p b) ((legal k (Settle q flip) f).2)))

-- ---- the cause
pub release_judged : (b : Position) (p : ℕ) (s : Static) → Legal b.job (past b) → IsProduct b p s → MatchOption (why_not_released s.kind (standing_of (past b) p)) (Allowed b.job (past b) (Release p)) (λ why. ReleaseRefusedBecause why b p)
release_judged b p s legal e = go s.kind refl
  where
    places : TakesRegion s.kind → (d r : Option ℕ) → done_place (past b) p ≡ d → release_place (past b) p ≡ r → MatchOption (by_places d r) (Allowed b.job (past b) (Release p)) (λ why. ReleaseRefusedBecause why b p)
    places t None r x y = (slice_get_within b.job.products p s e, undone_undelivered (past b) p x)
    places t (Some k) None x y = (done_delivered b.job (past b) p k s legal e t x, y)
    places t (Some k) (Some place) x y = (done_delivered b.job (past b) p k s legal e t x, y)

    go : (k : Kind) → s.kind ≡ k → MatchOption (why_not_released k (standing_of (past b) p)) (Allowed b.job (past b) (Release p)) (λ why. ReleaseRefusedBecause why b p)
    go kind.Rotation f = places (subst TakesRegion (sym f) tt) (done_place (past b) p) (release_place (past b) p) refl refl
    go (kind.Measure bit) f = places (subst TakesRegion (sym f) tt) (done_place (past b) p) (release_place (past b) p) refl refl
    go (kind.Settle first size value) f = (slice_get_within b.job.products p s e, settled_undelivered b.job (past b) p s legal e (λ t. subst TakesRegion f t))

-- a released product is one
pub release_within : (j : BoardJob) (h : History) (p : ℕ) → Legal j h → Allowed j h (Release p) → p < length j.products
release_within j h p legal a =
    let g = some_of (delivered h p) a.0 in
    let d = delivered_at h p g.0 g.1 in
    let b = legal d.0 (Deliver p g.0) d.1 in
    slice_get_within j.products p b.2.0 b.2.1
