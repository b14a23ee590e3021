-- The cells of a claim, as the definition of a legal history has them and as a test.
use Rattle.std.proofs.Common.{◌≡◌, ◌≢◌, ℕ, ◌<◌, ◌≤◌, Bool, true, false, ◌||◌, ◌&&◌, ◌==◌, not, List, [], ◌∷◌, length, refl, ap, sym, ◌∙◌, arith, inl, inr, eq-eqb, eqb-true}
use Rattle.std.specs.Prelude.{Option, Some, slice_get}
use Rattle.std.proofs.lemmas.Bool.{true≢false, cases_Bool}
use Rattle.std.proofs.lemmas.Option.{get_or_from_slice_get}
use Rattle.pauli_product.specs.declared.Letter.{Letter}
use Rattle.pauli_product.specs.declared.Letter.TheVariants as letter
use Rattle.pauli_product.specs.Signed.{Signed}
use Rattle.source_model.specs.declared.Static.{Static}
use Rattle.source_model.specs.Statics.{commuting}
use Rattle.patch_layout.specs.Grid.{Grid}
use Rattle.patch_layout.specs.declared.layout.Site.{Site}
use Rattle.board_core.specs.declared.Entry.TheVariants.{Claim}
use Rattle.board_core.specs.Legal.{BoardJob, ClaimCell}
use Rattle.slice_write.specs.Slices.{Sliced, is_among, is_claim_cell, holds_site, is_identity, shares_cell, any_of, upto, commute_at, commuting_ones, clashes_with, slice_of, greatest_of}
use Rattle.slice_write.specs.Laws.{ClaimsOfASliceAreApart, ClaimsOfASliceCommute}
use Rattle.slice_write.proofs.Among.{or_true, contains_among, among_upto}
use Rattle.slice_write.proofs.Greatest.{greatest_ge}
use Rattle.slice_write.proofs.Slicing.{earlier, slice_at}

other_letter : (l : Letter) → l ≢ letter.I → not (is_identity l) ≡ true
other_letter letter.I other = absurd (other refl)
other_letter letter.X other = refl
other_letter letter.Y other = refl
other_letter letter.Z other = refl

by_site : (axis : Signed) (through : Option ℕ) (cells : List ℕ) (c : ℕ) (o : Option Site) → holds_site axis through o ≡ true → (is_among cells c || holds_site axis through o) ≡ true
by_site axis through cells c o holds = rw holds (or_true (is_among cells c))

pub claim_cell : (g : Grid) (axis : Signed) (through : Option ℕ) (cells : List ℕ) (c : ℕ) → ClaimCell g axis through cells c → is_claim_cell g axis through cells c ≡ true
unfolding is_claim_cell
claim_cell g axis through cells c (inl has) = rw (contains_among cells c has) refl
claim_cell g axis through cells c (inr (inl (q, l, level, at, has, other))) =
    rw at (rw (get_or_from_slice_get axis.letters q l letter.I has, other_letter l other) (or_true (is_among cells c)))
claim_cell g axis through cells c (inr (inr (f, level, store, at, is))) =
    rw (at, is, eq-eqb f f refl) (or_true (is_among cells c))

any_at : (test : ℕ → Bool) (cs : List ℕ) (c : ℕ) → is_among cs c ≡ true → test c ≡ true → any_of test cs ≡ true
any_at test [] c among passes = absurd (true≢false (sym among))
any_at test (d ∷ cs) c among passes = elim (cases_Bool (d == c)) [
  | inl same ↦ let is : test d ≡ true = ap test (eqb-true d c same) ∙ passes in rw is refl
  | inr other ↦ rw (any_at test cs c (ap (λ b. b || is_among cs c) (sym other) ∙ among) passes) (or_true (test d))
]

pub shares : (g : Grid) (a b : Signed) (s t state : Option ℕ) (cs ds : List ℕ) (p c : ℕ) → c < length g.sites → is_claim_cell g a s cs c ≡ true → is_claim_cell g b t ds c ≡ true
    → shares_cell g b t ds (Claim p a s state cs) ≡ true
unfolding shares_cell
shares g a b s t state cs ds p c inside first second =
    any_at (λ x. is_claim_cell g b t ds x && is_claim_cell g a s cs x) (upto (length g.sites)) c (among_upto (length g.sites) c inside) (rw (second, first) refl)

-- a claim's slice is past those of the entries that hold it back
pub past_shared : (j : BoardJob) (before : List Sliced) (q : ℕ) (b : Signed) (t state : Option ℕ) (ds : List ℕ) → greatest_of (shares_cell j.grid b t ds) before < slice_of j before (Claim q b t state ds)
unfolding slice_of
past_shared j before q b t state ds = omega arith

pub past_clash : (j : BoardJob) (before : List Sliced) (q : ℕ) (b : Signed) (t state : Option ℕ) (ds : List ℕ) → greatest_of (clashes_with j.products q) before < slice_of j before (Claim q b t state ds)
unfolding slice_of
past_clash j before q b t state ds = omega arith

pub apart : ClaimsOfASliceAreApart
apart j h slice m n p q c a b s t cs ds low (first_state, at, has) (state, later, had) inside holds holds_too =
    let (before, rest, is, long, there) = earlier j h m n slice (Claim p a s first_state cs) (Claim q b t state ds) low at has later in
    let its : slice ≡ slice_of j before (Claim q b t state ds) = slice_at j h n slice (Claim q b t state ds) before rest is long had in
    let ge : slice ≤ greatest_of (shares_cell j.grid b t ds) before =
    greatest_ge (shares_cell j.grid b t ds) before m (Claim p a s first_state cs) slice there (shares j.grid a b s t first_state cs ds p c inside (claim_cell j.grid a s cs c holds) (claim_cell j.grid b t ds c holds_too)) in
    let past = past_shared j before q b t state ds in
    omega (arith, its, ge, past)

commute_is : (products : List Static) (p q : ℕ) (u v : Static) → slice_get products p ≡ Some u → slice_get products q ≡ Some v → commute_at products p q ≡ commuting u v
unfolding commute_at
commute_is products p q u v first second = ap (λ o. commuting_ones o (slice_get products q)) first ∙ ap (commuting_ones (Some u)) second

pub commute : ClaimsOfASliceCommute
commute j h slice m n p q a b s t cs ds u v low (first_state, at, has) (state, later, had) first second = go (commuting u v) refl
  where
    go : (x : Bool) → commuting u v ≡ x → commuting u v ≡ true
    go true e = e
    go false e =
        let (before, rest, is, long, there) = earlier j h m n slice (Claim p a s first_state cs) (Claim q b t state ds) low at has later in
        let its : slice ≡ slice_of j before (Claim q b t state ds) = slice_at j h n slice (Claim q b t state ds) before rest is long had in
        let clash : clashes_with j.products q (Claim p a s first_state cs) ≡ true = ap not (commute_is j.products p q u v first second ∙ e) in
        let ge : slice ≤ greatest_of (clashes_with j.products q) before = greatest_ge (clashes_with j.products q) before m (Claim p a s first_state cs) slice there clash in
        let past = past_clash j before q b t state ds in
        absurd (omega (arith, its, ge, past))
