-- Stores by the sites, and claim cells within the grid.
use Rattle.std.proofs.Common.{◌≡◌, ◌⊎◌, ℕ, zero, suc, ◌<◌, Bool, true, ◌==◌, ◌||◌, List, [], ◌∷◌, length, refl, ap, sym, ◌∙◌, subst, arith, inl, inr, eqb-true}
use Rattle.std.specs.Prelude.{slice_get, Option, Some, None, unwrap_or, All, ◌↔◌, if◌then◌else◌}
use Rattle.std.proofs.lemmas.Bool.{cases_Bool, eqb-false, true≢false}
use Rattle.std.proofs.lemmas.Option.{same_Some, slice_get_within}
use Rattle.pauli_product.specs.Signed.{Signed}
use Rattle.patch_layout.specs.Grid.{Grid, HasStore}
use Rattle.patch_layout.specs.declared.layout.Site.{Site}
use Rattle.patch_layout.specs.declared.layout.Site.TheVariants as site
use Rattle.slice_write.specs.Slices.{store_in, is_among, is_claim_cell, holds_site}
use Rattle.slice_write.proofs.Among.{among_all, all_among}

-- a port has the store, or there is no port
Found : List Site → ℕ → Type 0
Found ss f =
    ((c : ℕ) × (level : Bool) × (slice_get ss c ≡ Some (site.Port f level (store_in ss f))))
    ⊎ ((store_in ss f ≡ 0) × ((c store : ℕ) (level : Bool) → slice_get ss c ≡ Some (site.Port f level store) → ⊥))

other_first : (s : Site) (ss : List Site) (f : ℕ) → store_in (s ∷ ss) f ≡ store_in ss f → ((store : ℕ) (level : Bool) → s ≡ site.Port f level store → ⊥) → Found ss f → Found (s ∷ ss) f
unfolding Found
other_first s ss f same other (inl (c, level, at)) = inl (suc c, level, at ∙ ap (λ n. Some (site.Port f level n)) (sym same))
other_first s ss f same other (inr (none, nowhere)) = inr (same ∙ none, λ c store level at. skip c store level at)
  where
    skip : (c store : ℕ) (level : Bool) → slice_get (s ∷ ss) c ≡ Some (site.Port f level store) → ⊥
    skip zero store level at = other store level (same_Some s (site.Port f level store) at)
    skip (suc c) store level at = nowhere c store level at

store_found : (ss : List Site) (f : ℕ) → Found ss f
unfolding Found
store_found [] f = inr (refl, λ c store level at. cc)
store_found (site.Ancilla ∷ ss) f = other_first site.Ancilla ss f refl (λ store level e. cc) (store_found ss f)
store_found (site.Wall ∷ ss) f = other_first site.Wall ss f refl (λ store level e. cc) (store_found ss f)
store_found (site.Patch q level ∷ ss) f = other_first (site.Patch q level) ss f refl (λ store x e. cc) (store_found ss f)
store_found (site.Port g level store ∷ ss) f = elim (cases_Bool (g == f)) [
  | inl same ↦ inl (0, level, ap Some (ap (λ n. site.Port n level store) (eqb-true g f same) ∙ ap (λ n. site.Port f level n) (sym (ap (λ b. if b then store else store_in ss f) same))))
  | inr apart ↦ other_first (site.Port g level store) ss f (ap (λ b. if b then store else store_in ss f) apart) (λ s x e. eqb-false g f apart (number g f level x store s e)) (store_found ss f)
]
  where
    number : (a b : ℕ) (x y : Bool) (s t : ℕ) → site.Port a x s ≡ site.Port b y t → a ≡ b
    number a b x y s t e = cc

-- what is known of a factory's store tells it
pub store_is : (g : Grid) (f : ℕ) (o : Option ℕ) → ((s : ℕ) → (o ≡ Some s) ↔ HasStore g f s) → unwrap_or o 0 ≡ store_in g.sites f
unfolding Found
store_is g f o known = go o (store_found g.sites f) known
  where
    go : (o : Option ℕ) → Found g.sites f → ((s : ℕ) → (o ≡ Some s) ↔ HasStore g f s) → unwrap_or o 0 ≡ store_in g.sites f
    go o (inl (c, level, at)) known = ap (λ x. unwrap_or x 0) ((known (store_in g.sites f)).1 (c, level, at))
    go None (inr (none, nowhere)) known = sym none
    go (Some s) (inr (none, nowhere)) known = let (c, level, at) = (known s).0 refl in absurd (nowhere c s level at)

-- a claim's cells are cells of the grid
pub claim_cell_inside : (g : Grid) (axis : Signed) (through : Option ℕ) (cells : List ℕ) (c : ℕ) → All (λ d. d < length g.sites) cells → is_claim_cell g axis through cells c ≡ true → c < length g.sites
unfolding is_claim_cell
claim_cell_inside g axis through cells c all holds = elim (cases_Bool (is_among cells c)) [
  | inl among ↦ among_all (λ d. d < length g.sites) cells c all among
  | inr other ↦ go (slice_get g.sites c) refl (ap (λ b. b || holds_site axis through (slice_get g.sites c)) (sym other) ∙ holds)
]
  where
    go : (o : Option Site) → slice_get g.sites c ≡ o → holds_site axis through o ≡ true → c < length g.sites
    go None e f = absurd (true≢false (sym f))
    go (Some s) e f = slice_get_within g.sites c s e

pub held_inside : (g : Grid) (axis : Signed) (through : Option ℕ) (region held : List ℕ) → ((c : ℕ) → is_among held c ≡ is_claim_cell g axis through region c) → All (λ c. c < length g.sites) region → All (λ c. c < length g.sites) held
held_inside g axis through region held same all = all_among (λ c. c < length g.sites) held (λ c among. claim_cell_inside g axis through region c all (sym (same c) ∙ among))

pub all_within : (held xs table : List ℕ) (n : ℕ) → xs ≡ held → length table ≡ n → All (λ c. c < n) held → All (λ c. c < length table) xs
all_within held xs table n is long all = let P : List ℕ → Type 0 = λ l. All (λ c. c < length table) l in subst P (sym is) (λ k d h. omega (arith, all k d h, long))
