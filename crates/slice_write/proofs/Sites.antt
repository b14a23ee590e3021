-- The cells that a claim holds, qubit by qubit.
use Rattle.std.proofs.Common.{◌≡◌, ℕ, ◌+◌, Bool, true, false, ◌&&◌, ◌||◌, ◌==◌, not, List, length, refl, ap, sym, ◌∙◌, arith, inl, inr, eq-eqb, ne_eqb, eqb-true}
use Rattle.std.specs.Prelude.{nat_lt, slice_get, Option, Some, None, ◌↔◌}
use Rattle.std.proofs.lemmas.Bool.{cases_Bool, cases_lt, lt-ltb, le-ltb, eqb-false}
use Rattle.std.proofs.lemmas.List.{get_or_past}
use Rattle.std.proofs.lemmas.Option.{get_or_from_slice_get, same_Some}
use Rattle.pauli_product.specs.declared.Letter.{Letter}
use Rattle.pauli_product.specs.declared.Letter.TheVariants as letter
use Rattle.pauli_product.specs.Signed.{Signed, letter_at}
use Rattle.patch_layout.specs.Grid.{Grid, IsPatch, IsPort}
use Rattle.patch_layout.specs.declared.layout.Site.{Site}
use Rattle.patch_layout.specs.declared.layout.Site.TheVariants as site
use Rattle.slice_write.specs.Slices.{is_among, is_claim_cell, holds_site, is_identity, is_port}
use Rattle.slice_write.proofs.Among.{or_false, or_assoc}

-- a patch of a qubit below n at a letter other than I
abbrev pub holds_below : Signed → ℕ → Option Site → Bool
holds_below axis n None = false
holds_below axis n (Some site.Ancilla) = false
holds_below axis n (Some site.Wall) = false
holds_below axis n (Some (site.Patch q level)) = nat_lt q n && not (is_identity (letter_at axis q))
holds_below axis n (Some (site.Port f level store)) = false

pub below_none : (axis : Signed) (o : Option Site) → holds_below axis 0 o ≡ false
below_none axis None = refl
below_none axis (Some site.Ancilla) = refl
below_none axis (Some site.Wall) = refl
below_none axis (Some (site.Patch q level)) = rw (le-ltb q 0 (omega arith)) refl
below_none axis (Some (site.Port f level store)) = refl

-- a qubit further
further : (q r : ℕ) → (r ≡ q → ⊥) → nat_lt r (q + 1) ≡ nat_lt r q
further q r other = elim (cases_lt r q) [
  | inl below ↦ lt-ltb r (q + 1) (omega arith) ∙ sym (lt-ltb r q below)
  | inr above ↦ le-ltb r (q + 1) (omega (arith, other)) ∙ sym (le-ltb r q above)
]

at_or_not : (axis : Signed) (q r : ℕ) (l : Letter) → slice_get axis.letters q ≡ Some l → r ≡ q → letter_at axis r ≡ l
at_or_not axis q r l has e = ap (letter_at axis) e ∙ get_or_from_slice_get axis.letters q l letter.I has

-- the letter I adds no patch
pub below_skip : (axis : Signed) (q : ℕ) (l : Letter) (o : Option Site) → slice_get axis.letters q ≡ Some l → is_identity l ≡ true → holds_below axis (q + 1) o ≡ holds_below axis q o
below_skip axis q l None has is = refl
below_skip axis q l (Some site.Ancilla) has is = refl
below_skip axis q l (Some site.Wall) has is = refl
below_skip axis q l (Some (site.Port f level store)) has is = refl
below_skip axis q l (Some (site.Patch r level)) has is = elim (cases_Bool (r == q)) [
  | inl same ↦
      let none : is_identity (letter_at axis r) ≡ true = ap is_identity (at_or_not axis q r l has (eqb-true r q same)) ∙ is in
      rw none (both_false (nat_lt r (q + 1)) (nat_lt r q))
  | inr other ↦ ap (λ b. b && not (is_identity (letter_at axis r))) (further q r (eqb-false r q other))
]
  where
    both_false : (a b : Bool) → (a && false) ≡ (b && false)
    both_false true true = refl
    both_false true false = refl
    both_false false true = refl
    both_false false false = refl

-- whether a cell is the one that was found
no_port : (cell : Option ℕ) (c : ℕ) → (cell ≡ Some c → ⊥) → is_port cell c ≡ false
no_port None c other = refl
no_port (Some d) c other = ne_eqb d c (λ e. other (ap Some e))

the_port : (cell : Option ℕ) (c : ℕ) → cell ≡ Some c → is_port cell c ≡ true
the_port cell c e = rw e (eq-eqb c c refl)

site_of : (o : Option Site) (s t : Site) → o ≡ Some s → o ≡ Some t → s ≡ t
site_of o s t e f = same_Some s t (sym e ∙ f)

-- another letter adds its patch
pub below_more : (g : Grid) (axis : Signed) (q c : ℕ) (l : Letter) (cell : Option ℕ) → slice_get axis.letters q ≡ Some l → is_identity l ≡ false → ((d : ℕ) → (cell ≡ Some d) ↔ IsPatch g q d)
    → (holds_below axis q (slice_get g.sites c) || is_port cell c) ≡ holds_below axis (q + 1) (slice_get g.sites c)
below_more g axis q c l cell has other found = go (slice_get g.sites c) refl
  where
    none : (o : Option Site) → slice_get g.sites c ≡ o → ((level : Bool) → o ≡ Some (site.Patch q level) → ⊥) → is_port cell c ≡ false
    none o e never = no_port cell c (λ is. let (level, there) = (found c).0 is in never level (sym e ∙ there))

    go : (o : Option Site) → slice_get g.sites c ≡ o → (holds_below axis q o || is_port cell c) ≡ holds_below axis (q + 1) o
    go None e = none None e (λ level is. cc)
    go (Some site.Ancilla) e = none (Some site.Ancilla) e (λ level is. cc)
    go (Some site.Wall) e = none (Some site.Wall) e (λ level is. cc)
    go (Some (site.Port f level store)) e = none (Some (site.Port f level store)) e (λ x is. cc)
    go (Some (site.Patch r level)) e = elim (cases_Bool (r == q)) [
      | inl same ↦
          let here : r ≡ q = eqb-true r q same in
          let there : slice_get g.sites c ≡ Some (site.Patch q level) = e ∙ ap (λ n. Some (site.Patch n level)) here in
          let its : not (is_identity (letter_at axis r)) ≡ true = ap (λ x. not (is_identity x)) (at_or_not axis q r l has here) ∙ ap not other in
          rw (the_port cell c ((found c).1 (level, there)), le-ltb r q (omega (arith, here)), lt-ltb r (q + 1) (omega (arith, here)), its) refl
      | inr apart ↦
          let ne : r ≡ q → ⊥ = eqb-false r q apart in
          rw (none (Some (site.Patch r level)) e (λ x is. ne (patch_number r q level x is)), further q r ne) (or_false (nat_lt r q && not (is_identity (letter_at axis r))))
    ]
      where
        patch_number : (a b : ℕ) (x y : Bool) → Some (site.Patch a x) ≡ Some (site.Patch b y) → a ≡ b
        patch_number a b x y is = cc

-- whether the site is the claim's port
abbrev pub port_there : Option ℕ → Option Site → Bool
port_there through None = false
port_there through (Some site.Ancilla) = false
port_there through (Some site.Wall) = false
port_there through (Some (site.Patch q level)) = false
port_there through (Some (site.Port f level store)) = is_port through f

pub port_found : (g : Grid) (f c : ℕ) (cell : Option ℕ) → ((d : ℕ) → (cell ≡ Some d) ↔ IsPort g f d) → is_port cell c ≡ port_there (Some f) (slice_get g.sites c)
port_found g f c cell found = go (slice_get g.sites c) refl
  where
    none : (o : Option Site) → slice_get g.sites c ≡ o → ((level : Bool) (store : ℕ) → o ≡ Some (site.Port f level store) → ⊥) → is_port cell c ≡ false
    none o e never = no_port cell c (λ is. let (level, store, there) = (found c).0 is in never level store (sym e ∙ there))

    port_number : (a b : ℕ) (x y : Bool) (s t : ℕ) → Some (site.Port a x s) ≡ Some (site.Port b y t) → a ≡ b
    port_number a b x y s t is = cc

    go : (o : Option Site) → slice_get g.sites c ≡ o → is_port cell c ≡ port_there (Some f) o
    go None e = none None e (λ level store is. cc)
    go (Some site.Ancilla) e = none (Some site.Ancilla) e (λ level store is. cc)
    go (Some site.Wall) e = none (Some site.Wall) e (λ level store is. cc)
    go (Some (site.Patch q x)) e = none (Some (site.Patch q x)) e (λ level store is. cc)
    go (Some (site.Port h x s)) e = elim (cases_Bool (f == h)) [
      | inl same ↦
          let there : slice_get g.sites c ≡ Some (site.Port f x s) = e ∙ ap (λ n. Some (site.Port n x s)) (sym (eqb-true f h same)) in
          the_port cell c ((found c).1 (x, s, there)) ∙ sym same
      | inr apart ↦ none (Some (site.Port h x s)) e (λ level store is. eqb-false f h apart (sym (port_number h f x level s store is))) ∙ sym apart
    ]

pub no_port_there : (o : Option Site) → port_there None o ≡ false
no_port_there None = refl
no_port_there (Some site.Ancilla) = refl
no_port_there (Some site.Wall) = refl
no_port_there (Some (site.Patch q level)) = refl
no_port_there (Some (site.Port f level store)) = refl

-- all patches, and the port
pub all_sites : (g : Grid) (axis : Signed) (through : Option ℕ) (cells : List ℕ) (n c : ℕ) (cell : Option ℕ) → n ≡ length axis.letters
    → is_port cell c ≡ port_there through (slice_get g.sites c)
    → ((is_among cells c || holds_below axis n (slice_get g.sites c)) || is_port cell c) ≡ is_claim_cell g axis through cells c
unfolding is_claim_cell
all_sites g axis through cells n c cell all found =
    rw found (sym (or_assoc (is_among cells c) (holds_below axis n (slice_get g.sites c)) (port_there through (slice_get g.sites c)))) ∙ ap (λ b. is_among cells c || b) (go (slice_get g.sites c))
  where
    here : (q : ℕ) → (nat_lt q n && not (is_identity (letter_at axis q))) ≡ not (is_identity (letter_at axis q))
    here q = elim (cases_lt q n) [
      | inl below ↦ rw (lt-ltb q n below) refl
      | inr past ↦
          let none : letter_at axis q ≡ letter.I = get_or_past axis.letters q letter.I (omega (arith, all, past)) in
          rw (le-ltb q n past, none) refl
    ]

    go : (o : Option Site) → (holds_below axis n o || port_there through o) ≡ holds_site axis through o
    go None = refl
    go (Some site.Ancilla) = refl
    go (Some site.Wall) = refl
    go (Some (site.Patch q level)) = or_false (nat_lt q n && not (is_identity (letter_at axis q))) ∙ here q
    go (Some (site.Port f level store)) = refl
