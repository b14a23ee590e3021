-- A complete history has the table's outcomes, and a history whose deliveries agree with the table is complete where all products are over.
use Rattle.std.proofs.Common.{◌≡◌, ℕ, zero, suc, ◌+◌, ◌<◌, Bool, true, false, ◌==◌, if◌then◌else◌, List, [], ◌∷◌, length, take, drop, get_or, inl, inr, position, refl, sym, ◌∙◌, ap, subst, arith, eq-eqb}
use Rattle.std.specs.Prelude.{Option, Some, None, IsSome, is_some, All, slice_get}
use Rattle.std.proofs.lemmas.Option.{same_Some, none-some, slice_get_within, get_or_from_slice_get}
use Rattle.std.proofs.lemmas.Bool.{cases_lt, true≢false, or_right, or_left, eqb-true}
use Rattle.std.proofs.lemmas.List.{take-append-drop}
use Rattle.source_model.specs.declared.Given.{Given}
use Rattle.source_model.specs.declared.Kind.{Kind}
use Rattle.source_model.specs.declared.Kind.TheVariants as kind
use Rattle.source_model.specs.declared.Static.{Static}
use Rattle.board_core.specs.declared.Noted.{Noted}
use Rattle.board_core.specs.declared.Entry.{Entry}
use Rattle.board_core.specs.declared.Entry.TheVariants.{Claim, Deliver, Release, Step, Settle}
use Rattle.board_core.specs.History.{History, entries, delivered, done_place, is_done_by}
use Rattle.board_core.specs.Legal.{BoardJob, Legal, Complete, CompleteAt, IsKind}
use Rattle.board_core.specs.Position.{Position, past}
use Rattle.board_core.proofs.Tables.{entry_of}
use Rattle.board_core.proofs.Places.{place_cons, delivered-append}
use Rattle.board_core.proofs.Releasing.{undone_undelivered}
use Rattle.board_core.proofs.LegalOrder.{delivered_at}
use Rattle.board_core.proofs.Standings.{found_at}
use Rattle.history_replay.specs.Replay.{Agrees}
use Rattle.history_replay.specs.inside.Joining.{AgreeAll, IsOver, AllOver}

drop_at : {X : Type 0} (xs : List X) (i : ℕ) (x : X) → slice_get xs i ≡ Some x → drop i xs ≡ x ∷ drop (suc i) xs
drop_at [] i x e = absurd (none-some x e)
drop_at (y ∷ ys) zero x e = ap (λ z. z ∷ ys) (same_Some y x e)
drop_at (y ∷ ys) (suc i) x e = drop_at ys i x e

deliver_head : (p : ℕ) (g : Given) (es : History) → delivered (Deliver p g ∷ es) p ≡ Some g
deliver_head p g es = go (p == p) (eq-eqb p p refl)
  where
    go : (b : Bool) → b ≡ true → (elim (if b then Some g else None) [ None ↦ delivered es p | Some x ↦ Some x ]) ≡ Some g
    go true e = refl
    go false e = absurd (true≢false (sym e))

-- the first delivery of a product tells its outcome
pub deliver_first : (h : History) (i p : ℕ) (g : Given) → slice_get h i ≡ Some (Deliver p g) → done_place (take i h) p ≡ None → delivered h p ≡ Some g
deliver_first h i p g at undone =
    ap (λ hs. delivered hs p) (sym (take-append-drop i h))
    ∙ (delivered-append (take i h) (drop i h) p
    ∙ rw (undone_undelivered (take i h) p undone, drop_at h i (Deliver p g) at) (deliver_head p g (drop (suc i) h)))

delivered_now : (j : BoardJob) (h : History) (i p : ℕ) (g : Given) → Legal j h → slice_get h i ≡ Some (Deliver p g) → delivered h p ≡ Some g
delivered_now j h i p g legal at = deliver_first h i p g at (legal i (Deliver p g) at).1

-- ---- from complete to agreeing
same_outcome : (h : History) (p : ℕ) (g x : Given) (k : Kind) → IsKind k x → CompleteAt h p g k → delivered h p ≡ Some x → g ≡ x
same_outcome h p g x kind.Rotation i c e = same_Some g x (sym c.1 ∙ e)
same_outcome h p g x (kind.Measure bit) i c e = same_Some g x (sym c.1 ∙ e)
same_outcome h p g x (kind.Settle first size value) i c e = absurd i

agrees_one : (j : BoardJob) (table : List Given) (h : History) (i : ℕ) (e : Entry) → length table ≡ length j.products → Legal j h → Complete j h table → slice_get h i ≡ Some e → Agrees table e
agrees_one j table h i (Claim p axis port state cells) l legal complete at = tt
agrees_one j table h i (Release p) l legal complete at = tt
agrees_one j table h i (Step f) l legal complete at = tt
agrees_one j table h i (Settle p flip) l legal complete at = tt
agrees_one j table h i (Deliver p x) l legal complete at =
    let a = legal i (Deliver p x) at in
    let s = a.2 in
    let g = entry_of table p (let k = slice_get_within j.products p s.0 s.1 in omega arith) in
    g.1 ∙ ap Some (same_outcome h p g.0 x s.0.kind s.2 (complete p s.0 g.0 s.1 g.1) (delivered_now j h i p x legal at))

all_by_place : {X : Type 0} (P : X → Type 0) (xs : List X) → ((i : ℕ) (x : X) → slice_get xs i ≡ Some x → P x) → All P xs
all_by_place P [] f k d l = absurd (omega arith)
all_by_place P (x ∷ xs) f zero d l = f 0 x refl
all_by_place P (x ∷ xs) f (suc k) d l = all_by_place P xs (λ i y e. f (suc i) y e) k d (omega (arith, l))

entry_at : (h : List Noted) (i : ℕ) (n : Noted) → slice_get h i ≡ Some n → slice_get (entries h) i ≡ Some n.entry
entry_at [] i n e = absurd (none-some n e)
entry_at (m ∷ h) zero n e = ap (λ x. Some x.entry) (same_Some m n e)
entry_at (m ∷ h) (suc i) n e = entry_at h i n e

pub complete_agrees : (j : BoardJob) (table : List Given) (h : List Noted) → length table ≡ length j.products → Legal j (entries h) → Complete j (entries h) table → AgreeAll table h
complete_agrees j table h l legal complete =
    all_by_place (λ n. Agrees table n.entry) h (λ i n e. agrees_one j table (entries h) i n.entry l legal complete (entry_at h i n e))

-- ---- complete and over
some_at : {A : Type 0} (test : A → Bool) (xs : List A) (i : ℕ) (x : A) → slice_get xs i ≡ Some x → test x ≡ true → is_some (position test xs) ≡ true
some_at test [] i x e t = absurd (none-some x e)
some_at test (y ∷ ys) zero x e t = place_cons test y ys ∙ or_left (test y) (is_some (position test ys)) (ap test (same_Some y x e) ∙ t)
some_at test (y ∷ ys) (suc i) x e t = place_cons test y ys ∙ or_right (test y) (is_some (position test ys)) (some_at test ys i x e t)

done_some : (h : History) (p : ℕ) (g : Given) → delivered h p ≡ Some g → IsSome (done_place h p)
done_some h p g e = let (m, at) = delivered_at h p g e in some_at (is_done_by p) h m (Deliver p g) at (eq-eqb p p refl)

over_one : (b : Position) (p : ℕ) (g : Given) (k : Kind) → CompleteAt (past b) p g k → IsOver b p k
over_one b p g kind.Rotation c = (c.0, done_some (past b) p g c.1, c.2)
over_one b p g (kind.Measure bit) c = (c.0, done_some (past b) p g c.1, c.2)
over_one b p g (kind.Settle first size value) c = c

pub complete_over : (b : Position) (table : List Given) → length table ≡ length b.job.products → Complete b.job (past b) table → AllOver b
complete_over b table l complete p s at =
    let g = entry_of table p (let k = slice_get_within b.job.products p s at in omega arith) in
    over_one b p g.0 s.kind (complete p s g.0 at g.1)

some_is : {A : Type 0} (o : Option A) → IsSome o → (x : A) × (o ≡ Some x)
some_is None e = absurd (true≢false (sym e))
some_is (Some x) e = (x, refl)

agree_at : (table : List Given) (h : List Noted) (i : ℕ) (e : Entry) → AgreeAll table h → slice_get (entries h) i ≡ Some e → Agrees table e
agree_at table [] i e f at = absurd (none-some e at)
agree_at table (n ∷ h) zero e f at = let P : Entry → Type 0 = λ x. Agrees table x in subst P (same_Some n.entry e at) (f 0 n (omega arith))
agree_at table (n ∷ h) (suc i) e f at = agree_at table h i e (λ k d l. f (suc k) d (omega (arith, l))) at

-- what is done and no settled product is delivered, with the table's outcome
delivers : (j : BoardJob) (table : List Given) (h : List Noted) (p k : ℕ) (s : Static) (g : Given) (e : Entry) → Legal j (entries h) → AgreeAll table h → slice_get j.products p ≡ Some s → slice_get table p ≡ Some g → ((first size value : ℕ) → s.kind ≡ kind.Settle first size value → ⊥) → slice_get (entries h) k ≡ Some e → is_done_by p e ≡ true → delivered (entries h) p ≡ Some g
delivers j table h p k s g (Claim q axis port state cells) legal agree at outcome region there t = absurd (true≢false (sym t))
delivers j table h p k s g (Release q) legal agree at outcome region there t = absurd (true≢false (sym t))
delivers j table h p k s g (Step f) legal agree at outcome region there t = absurd (true≢false (sym t))
delivers j table h p k s g (Deliver q x) legal agree at outcome region there t =
    let P : ℕ → Type 0 = λ r. delivered (entries h) r ≡ Some x in
    let Q : ℕ → Type 0 = λ r. slice_get table r ≡ Some x in
    let same : x ≡ g = same_Some x g (sym (subst Q (eqb-true q p t) (agree_at table h k (Deliver q x) agree there)) ∙ outcome) in
    subst P (eqb-true q p t) (delivered_now j (entries h) k q x legal there) ∙ ap Some same
delivers j table h p k s g (Settle q flip) legal agree at outcome region there t =
    let (u, first, size, value, is, settles, flips) = (legal k (Settle q flip) there).2 in
    let P : ℕ → Type 0 = λ r. slice_get j.products r ≡ Some u in
    let same : s ≡ u = same_Some s u (sym at ∙ subst P (eqb-true q p t) is) in
    absurd (region first size value (ap (λ (x : Static). x.kind) same ∙ settles))

delivers_at : (b : Position) (table : List Given) (p : ℕ) (s : Static) (g : Given) → Legal b.job (past b) → AgreeAll table b.history → slice_get b.job.products p ≡ Some s → slice_get table p ≡ Some g → ((first size value : ℕ) → s.kind ≡ kind.Settle first size value → ⊥) → IsSome (done_place (past b) p) → delivered (past b) p ≡ Some g
delivers_at b table p s g legal agree at outcome region done =
    let (k, e) = some_is (done_place (past b) p) done in
    let (x, there, t) = found_at (is_done_by p) (past b) k e in
    delivers b.job table b.history p k s g x legal agree at outcome region there t

complete_one : (b : Position) (table : List Given) (p : ℕ) (s : Static) (g : Given) (k : Kind) → s.kind ≡ k → Legal b.job (past b) → AgreeAll table b.history → slice_get b.job.products p ≡ Some s → slice_get table p ≡ Some g → IsOver b p k → CompleteAt (past b) p g k
complete_one b table p s g kind.Rotation is legal agree at outcome c =
    (c.0, delivers_at b table p s g legal agree at outcome (λ first size value e. let f : kind.Rotation ≡ kind.Settle first size value = sym is ∙ e in cc) c.1, c.2)
complete_one b table p s g (kind.Measure bit) is legal agree at outcome c =
    (c.0, delivers_at b table p s g legal agree at outcome (λ first size value e. let f : kind.Measure bit ≡ kind.Settle first size value = sym is ∙ e in cc) c.1, c.2)
complete_one b table p s g (kind.Settle first size value) is legal agree at outcome c = c

pub over_complete : (b : Position) (table : List Given) → Legal b.job (past b) → AgreeAll table b.history → AllOver b → Complete b.job (past b) table
over_complete b table legal agree over p s g at outcome = complete_one b table p s g s.kind refl legal agree at outcome (over p s at)

-- products that are over, one by one
pub over_more : (b : Position) (items : List Static) (p : ℕ) (item : Static) → items ≡ b.job.products → item ≡ get_or items p item → IsOver b p item.kind → ((q : ℕ) (s : Static) → q < p → slice_get b.job.products q ≡ Some s → IsOver b q s.kind) → (q : ℕ) (s : Static) → q < p + 1 → slice_get b.job.products q ≡ Some s → IsOver b q s.kind
over_more b items p item same is over before q s low at =
    elim (cases_lt q p) [
      | inl l ↦ before q s l at
      | inr l ↦
          let here : q ≡ p = omega (arith, l, low) in
          let own : s ≡ item = sym (get_or_from_slice_get b.job.products q s item at) ∙ (ap (λ xs. get_or xs q item) (sym same) ∙ (ap (λ k. get_or items k item) here ∙ sym is)) in
          let P : ℕ → Type 0 = λ k. IsOver b k s.kind in
          let Q : Static → Type 0 = λ x. IsOver b p x.kind in
          subst P (sym here) (subst Q (sym own) over)
    ]
