-- The tables of no entries, and what a legal history gives each entry.
use Rattle.std.proofs.Common.{◌≡◌, ℕ, zero, suc, ◌+◌, ◌^◌, ◌<◌, List, [], ◌∷◌, ◌++◌, length, get_or, take, map, refl, ap, sym, ◌∙◌, subst, arith, inl, inr, length-append}
use Rattle.std.specs.Prelude.{Option, IfSome, slice_get, replicate}
use Rattle.std.proofs.lemmas.Bool.{cases_lt}
use Rattle.std.proofs.lemmas.List.{length-replicate, get_or_append_left, get_or_push, take_at, map-append, length-map}
use Rattle.std.proofs.lemmas.Option.{slice_get_within}
use Rattle.source_model.specs.declared.Kind.{Kind}
use Rattle.source_model.specs.declared.Kind.TheVariants as kind
use Rattle.source_model.specs.declared.Static.{Static}
use Rattle.patch_layout.specs.Grid.{Grid}
use Rattle.magic_pool.specs.declared.Fail.{Fail}
use Rattle.magic_pool.specs.Recount.{makers_of}
use Rattle.magic_pool.proofs.Readiness.{first_made}
use Rattle.board_core.specs.declared.Noted.{Noted}
use Rattle.board_core.specs.declared.Entry.{Entry}
use Rattle.board_core.specs.declared.Entry.TheVariants.{Claim, Deliver, Release, Step, Settle}
use Rattle.board_core.specs.History.{History, entries, steps, taken_states, is_claim_of}
use Rattle.board_core.specs.Legal.{BoardJob, Legal, Allowed, TakesState}
use Rattle.board_core.specs.Limits.{AreFactories}
use Rattle.slice_write.specs.declared.placed.Placed.{Placed}
use Rattle.slice_write.specs.declared.factory.Factory.{Factory}
use Rattle.slice_write.specs.declared.ledger.Ledger.{Ledger}
use Rattle.slice_write.specs.Slices.{Sliced, is_step_of, is_claim_with, holds_cell, clashes_with, made_in, made_at, states_made_by, sliced, slices_of, slice_of}
use Rattle.slice_write.specs.inside.Clashes.{PlacedAre, greatest_clash}
use Rattle.slice_write.specs.inside.Factories.{FactoryIs, IsFresh}
use Rattle.slice_write.specs.inside.Tables.{job, Keeps, Fits, Awaits, IsNext}
use Rattle.slice_write.proofs.Greatest.{greatest_none}
use Rattle.slice_write.proofs.Clashing.{clash_none}
use Rattle.slice_write.proofs.Slicing.{sliced_more, sliced_none, sliced_entries, get_at}

pub fresh_more : (fails : List Fail) (xs : List Factory) (x : Factory) (m : ℕ) → length xs ≡ m → ((f : ℕ) (d : Factory) → f < m → IsFresh fails f (get_or xs f d)) → IsFresh fails m x
    → (f : ℕ) (d : Factory) → f < m + 1 → IsFresh fails f (get_or (xs ++ x ∷ []) f d)
fresh_more fails xs x m long fresh this f d low = elim (cases_lt f m) [
  | inl below ↦ rw (get_or_append_left xs (x ∷ []) d f (omega (arith, long))) (fresh f d below)
  | inr past ↦
      let e : m ≡ f = omega arith in
      let P : ℕ → Type 0 = λ g. IsFresh fails g (get_or (xs ++ x ∷ []) g d) in
      let Q : Factory → Type 0 = λ y. IsFresh fails m y in
      subst P e (subst Q (sym (get_or_push xs x d m long)) this)
]

no_made : (fails : List Fail) (s : ℕ) → made_at fails [] s ≡ 0
unfolding made_at
no_made fails s = refl

no_own : (fails : List Fail) (f : ℕ) → states_made_by fails f [] ≡ []
unfolding states_made_by
no_own fails f = refl

factory_new : (j : BoardJob) (f : ℕ) (x : Factory) → IsFresh j.fails f x → FactoryIs j [] f x
factory_new j f x fresh = record {
  steps = fresh.steps;
  last = fresh.last ∙ sym (greatest_none (is_step_of f));
  own = fresh.own ∙ sym (no_own j.fails f);
  runs = fresh.runs;
}

all_zeros : (n k : ℕ) → let nil : ℕ = 0 in get_or (replicate n nil) k nil ≡ nil
all_zeros zero k = refl
all_zeros (suc n) zero = refl
all_zeros (suc n) (suc k) = all_zeros n k

zeros : (table : List ℕ) (n k : ℕ) → (let nil : ℕ = 0 in table ≡ replicate n nil) → get_or table k 0 ≡ 0
zeros table n k is = ap (λ l. get_or l k 0) is ∙ all_zeros n k

pub keeps_new : (j : BoardJob) (t : Ledger) (n : ℕ) → t.cells.items ≡ replicate n 0 → n ≡ length j.grid.sites → t.claims.items ≡ replicate (length j.products) 0 → t.made.items ≡ [] → t.taken.items ≡ []
    → length t.factories.items ≡ 16 → ((f : ℕ) (d : Factory) → f < 16 → IsFresh j.fails f (get_or t.factories.items f d)) → t.placed.items ≡ [] → Keeps j [] t
keeps_new j t n cells size claims made taken count fresh placed = record {
  bound = omega arith;
  size = ap length cells ∙ length-replicate n 0 ∙ size;
  cells = λ c low. zeros t.cells.items n c cells ∙ sym (greatest_none (holds_cell j.grid c));
  products = ap length claims ∙ length-replicate (length j.products) 0;
  claims = λ p. zeros t.claims.items (length j.products) p claims ∙ sym (greatest_none (is_claim_of p));
  states = ap length made;
  made = λ s. ap (λ l. get_or l s 0) made ∙ sym (no_made j.fails s);
  states_taken = ap length taken;
  taken = λ s. ap (λ l. get_or l s 0) taken ∙ sym (greatest_none (is_claim_with s));
  count = count;
  factories = λ f d low. factory_new j f (get_or t.factories.items f d) (fresh f d low);
  placed = (let P : List Placed → Type 0 = λ l. PlacedAre j.products l in subst P (sym placed) (record { sorted = λ i k d le low. absurd (omega arith); numbered = λ k d low. absurd (omega arith) }));
  clashes = λ q. ap (λ l. greatest_clash j.products l q) placed ∙ clash_none j.products q ∙ sym (greatest_none (clashes_with j.products q));
}

-- a state that a claim takes was made
state_known : (j : BoardJob) (h : History) (k : Kind) (through state : Option ℕ) → TakesState j h k through state → IfSome state (λ s. s < length (made_in j.fails h))
state_known j h kind.Rotation through state (f, s, port, is, first) =
    let P : Option ℕ → Type 0 = λ o. IfSome o (λ t. t < length (made_in j.fails h)) in
    subst P (sym is) (omega (arith, first_made 0 (makers_of j.fails (steps h)) (taken_states h) f s first))
state_known j h (kind.Measure bit) through state (port, is) =
    let P : Option ℕ → Type 0 = λ o. IfSome o (λ t. t < length (made_in j.fails h)) in
    subst P (sym is) tt
state_known j h (kind.Settle first size value) through state takes = absurd takes

fits_allowed : (j : BoardJob) (h : History) (e : Entry) → AreFactories j.grid → Allowed j h e → Fits j (sliced j h) e
fits_allowed j h (Claim p axis through state cells) factories allowed =
    let (s, at, takes) = allowed.product in
    let P : History → Type 0 = λ k. IfSome state (λ t. t < length (made_in j.fails k)) in
    (slice_get_within j.products p s at, λ k d low. slice_get_within j.grid.sites (get_or cells k d) _ (allowed.fits.ancilla k d low), subst P (sym (sliced_entries j h)) (state_known j h s.kind through state takes))
fits_allowed j h (Deliver p g) factories allowed = tt
fits_allowed j h (Release p) factories allowed = tt
fits_allowed j h (Step f) factories (store, has, room) = (factories f store has).0
fits_allowed j h (Settle p flip) factories (undone, ready, (s, first, size, value, at, is, flips)) = slice_get_within j.products p s at

entries_at : (seen rest : List Noted) (x : Noted) → entries (seen ++ x ∷ rest) ≡ entries seen ++ x.entry ∷ entries rest
entries_at seen rest x = map-append (λ (n : Noted). n.entry) seen (x ∷ rest)

pub entries_push : (seen : List Noted) (x : Noted) → entries (seen ++ x ∷ []) ≡ entries seen ++ x.entry ∷ []
entries_push seen x = map-append (λ (n : Noted). n.entry) seen (x ∷ [])

allowed_at : (j : BoardJob) (h seen rest : History) (e : Entry) → Legal j h → h ≡ seen ++ e ∷ rest → Allowed j seen e
allowed_at j h seen rest e legal is =
    let P : History → Type 0 = λ k. Allowed j k e in
    subst P (ap (take (length seen)) is ∙ take_at seen (e ∷ rest) (length seen) refl) (legal (length seen) e (ap (λ k. slice_get k (length seen)) is ∙ get_at seen rest e (length seen) refl))

-- each entry of a legal history may be added
pub awaits_next : (products : List Static) (grid : Grid) (fails : List Fail) (history seen rest : List Noted) (x : Noted) (t : Ledger) → AreFactories grid → Legal (job products grid fails) (entries history)
    → seen ++ x ∷ rest ≡ history → length history < 2 ^ 32 → Keeps (job products grid fails) (sliced (job products grid fails) (entries seen)) t → Awaits products grid t x.entry
awaits_next products grid fails history seen rest x t factories legal whole short keeps =
    let j = job products grid fails in
    let is : entries history ≡ entries seen ++ x.entry ∷ entries rest = ap entries (sym whole) ∙ entries_at seen rest x in (
      fails,
      sliced j (entries seen),
      keeps,
      fits_allowed j (entries seen) x.entry factories (allowed_at j (entries history) (entries seen) (entries rest) x.entry legal is),
      omega (arith, ap length whole, length-append seen (x ∷ rest), short, ap length (sliced_entries j (entries seen)), length-map (sliced j (entries seen)) (λ (e : Sliced). e.0), length-map seen (λ (n : Noted). n.entry)),
    )

pub fits_next : (products : List Static) (grid : Grid) (fails : List Fail) (history seen rest : List Noted) (x : Noted) → AreFactories grid → Legal (job products grid fails) (entries history)
    → seen ++ x ∷ rest ≡ history → Fits (job products grid fails) (sliced (job products grid fails) (entries seen)) x.entry
fits_next products grid fails history seen rest x factories legal whole =
    let j = job products grid fails in
    let is : entries history ≡ entries seen ++ x.entry ∷ entries rest = ap entries (sym whole) ∙ entries_at seen rest x in
    fits_allowed j (entries seen) x.entry factories (allowed_at j (entries history) (entries seen) (entries rest) x.entry legal is)

pub keeps_next : (j : BoardJob) (seen : List Noted) (x : Noted) (n : ℕ) (t : Ledger) → IsNext j (sliced j (entries seen)) x.entry n t → Keeps j (sliced j (entries (seen ++ x ∷ []))) t
keeps_next j seen x n t next =
    let P : List Sliced → Type 0 = λ d. Keeps j d t in
    subst P (ap (λ m. sliced j (entries seen) ++ (x.entry, m) ∷ []) next.slice ∙ sym (sliced_more j (entries seen) x.entry) ∙ ap (sliced j) (sym (entries_push seen x))) next.keeps

pub slices_next : (j : BoardJob) (seen : List Noted) (x : Noted) (n : ℕ) (t : Ledger) (was now : List ℕ) → IsNext j (sliced j (entries seen)) x.entry n t → was ≡ slices_of j (entries seen) → now ≡ was ++ n ∷ [] → now ≡ slices_of j (entries (seen ++ x ∷ []))
slices_next j seen x n t was now next so_far is =
    is ∙ ap (λ l. l ++ n ∷ []) so_far ∙ ap (λ m. slices_of j (entries seen) ++ m ∷ []) next.slice
    ∙ sym (ap (λ h. slices_of j h) (entries_push seen x) ∙ ap (map (λ (e : Sliced). e.1)) (sliced_more j (entries seen) x.entry) ∙ map-append (λ (e : Sliced). e.1) (sliced j (entries seen)) ((x.entry, slice_of j (sliced j (entries seen)) x.entry) ∷ []))

pub keeps_start : (j : BoardJob) (t : Ledger) → Keeps j [] t → Keeps j (sliced j []) t
keeps_start j t k = let P : List Sliced → Type 0 = λ d. Keeps j d t in subst P (sym (sliced_none j)) k

pub slices_start : (j : BoardJob) → slices_of j [] ≡ []
slices_start j = ap (map (λ (e : Sliced). e.1)) (sliced_none j)
