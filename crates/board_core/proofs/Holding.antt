-- Who holds which cell, after one entry more.
use Rattle.std.proofs.Common.{◌≡◌, ◌≢◌, ℕ, ◌⊎◌, inl, inr, ◌↔◌, Bool, true, false, List, [], ◌∷◌, ◌++◌, length, take, Option, Some, None, is_some, IsSome, refl, ap, sym, ◌∙◌, subst, eq-eqb}
use Rattle.std.proofs.lemmas.Bool.{true≢false, false_from_ne_true, ne_eqb}
use Rattle.std.proofs.lemmas.Option.{none-some, slice_get_within}
use Rattle.pauli_product.specs.Signed.{Signed}
use Rattle.patch_layout.specs.Grid.{Grid}
use Rattle.board_core.specs.declared.Entry.{Entry}
use Rattle.board_core.specs.declared.Entry.TheVariants.{Claim, Deliver, Release, Settle}
use Rattle.board_core.specs.declared.Entry.TheVariants as entry
use Rattle.board_core.specs.History.{History, delivered, is_release_of, is_claim_of, claim_place, release_place}
use Rattle.board_core.specs.Legal.{BoardJob, Allowed, Legal, ClaimCell, Holds}
use Rattle.board_core.proofs.Places.{some_of, none_of}
use Rattle.board_core.proofs.LegalOrder.{at_end, delivered_at}
use Rattle.board_core.proofs.Going.{last_or_before, get_append, some_take, legal_take}
use Rattle.board_core.proofs.Apart.{claimer}
use Rattle.board_core.proofs.Standings.{place_stays, place_comes, place_found, found_at, releases_are}

-- a holder goes on holding, where the new entry isn't its release
held_on : (g : Grid) (h : History) (e : Entry) (q c : ℕ) → is_release_of q e ≡ false → Holds g h q c → Holds g (h ++ e ∷ []) q c
held_on g h e q c r x = (x.0, x.1, x.2, x.3, x.4, get_append h e x.0 (slice_get_within h x.0 (Claim q x.1 x.2 x.3 x.4) x.5) ∙ x.5, place_stays (is_release_of q) h e r ∙ x.6, x.7)

-- what is released after one entry more was so before, where the entry is no release
no_release : (h : History) (e : Entry) (q : ℕ) → release_place (h ++ e ∷ []) q ≡ None → release_place h q ≡ None
no_release h e q n = go (release_place h q) refl
  where
    go : (o : Option ℕ) → release_place h q ≡ o → release_place h q ≡ None
    go None k = k
    go (Some m) k = absurd (none-some m (sym n ∙ place_found (is_release_of q) h e m k))

-- a holder after an entry that is no claim held before
held_before : (g : Grid) (h : History) (e : Entry) (q c : ℕ) → ((axis : Signed) (through state : Option ℕ) (cells : List ℕ) → Claim q axis through state cells ≡ e → ⊥) → Holds g (h ++ e ∷ []) q c → Holds g h q c
held_before g h e q c other x =
    elim (last_or_before h e x.0 (Claim q x.1 x.2 x.3 x.4) x.5) [
      | inl r ↦ (x.0, x.1, x.2, x.3, x.4, r.1, no_release h e q x.6, x.7)
      | inr r ↦ absurd (other x.1 x.2 x.3 x.4 r.1)
    ]

-- ---- releases
-- what is released was claimed
pub release_claimed : (j : BoardJob) (h : History) (q : ℕ) → Legal j h → IsSome (release_place h q) → IsSome (claim_place h q)
release_claimed j h q legal r =
    let k = some_of (release_place h q) r in
    let at = found_at (is_release_of q) h k.0 k.1 in
    let a : Allowed j (take k.0 h) (Release q) = subst (Allowed j (take k.0 h)) (releases_are q at.0 at.2) (legal k.0 at.0 at.1) in
    let g = some_of (delivered (take k.0 h) q) a.0 in
    let d = delivered_at (take k.0 h) q g.0 g.1 in
    let b = legal_take j h k.0 legal d.0 (Deliver q g.0) d.1 in
    some_take (is_claim_of q) h k.0 (some_take (is_claim_of q) (take k.0 h) d.0 b.0)

unreleased : (j : BoardJob) (h : History) (q : ℕ) → Legal j h → claim_place h q ≡ None → release_place h q ≡ None
unreleased j h q legal n = none_of (release_place h q) (false_from_ne_true (is_some (release_place h q)) (λ r. true≢false (sym (release_claimed j h q legal r) ∙ ap is_some n)))

-- ---- one entry more
abbrev pub HoldsAfter : Grid → History → Entry → ℕ → ℕ → Type 0
HoldsAfter g h (Claim p axis through state cells) q c = Holds g h q c ⊎ ((q ≡ p) × ClaimCell g axis through cells c)
HoldsAfter g h (Deliver p given) q c = Holds g h q c
HoldsAfter g h (Release p) q c = Holds g h q c × (q ≢ p)
HoldsAfter g h (entry.Step f) q c = Holds g h q c
HoldsAfter g h (Settle p flip) q c = Holds g h q c

abbrev cells_in : Grid → Entry → ℕ → Type 0
cells_in g (Claim p axis through state cells) c = ClaimCell g axis through cells c
cells_in g (Deliver p given) c = ⊥
cells_in g (Release p) c = ⊥
cells_in g (entry.Step f) c = ⊥
cells_in g (Settle p flip) c = ⊥

abbrev claims_something : Entry → Bool
claims_something (Claim p axis through state cells) = true
claims_something (Deliver p given) = false
claims_something (Release p) = false
claims_something (entry.Step f) = false
claims_something (Settle p flip) = false

no_claim : (q : ℕ) (e : Entry) → claims_something e ≡ false → (axis : Signed) (through state : Option ℕ) (cells : List ℕ) → Claim q axis through state cells ≡ e → ⊥
no_claim q e f axis through state cells s = true≢false (ap claims_something s ∙ f)

pub holds_after : (j : BoardJob) (h : History) (e : Entry) (q c : ℕ) → Legal j h → Allowed j h e → Holds j.grid (h ++ e ∷ []) q c ↔ HoldsAfter j.grid h e q c
holds_after j h (Claim p axis through state cells) q c legal a = (to, from)
  where
    to : Holds j.grid (h ++ Claim p axis through state cells ∷ []) q c → Holds j.grid h q c ⊎ ((q ≡ p) × ClaimCell j.grid axis through cells c)
    to x =
        elim (last_or_before h (Claim p axis through state cells) x.0 (Claim q x.1 x.2 x.3 x.4) x.5) [
          | inl r ↦ inl (x.0, x.1, x.2, x.3, x.4, r.1, no_release h (Claim p axis through state cells) q x.6, x.7)
          | inr r ↦ inr (ap claimer r.1, subst (λ y. cells_in j.grid y c) r.1 x.7)
        ]

    from : Holds j.grid h q c ⊎ ((q ≡ p) × ClaimCell j.grid axis through cells c) → Holds j.grid (h ++ Claim p axis through state cells ∷ []) q c
    from (inl x) = held_on j.grid h (Claim p axis through state cells) q c refl x
    from (inr x) =
        rw x.0 (
          length h,
          axis,
          through,
          state,
          cells,
          at_end h (Claim p axis through state cells) [],
          place_stays (is_release_of p) h (Claim p axis through state cells) refl ∙ unreleased j h p legal a.unclaimed,
          x.1,
        )
holds_after j h (Deliver p given) q c legal a = (held_before j.grid h (Deliver p given) q c (no_claim q (Deliver p given) refl), held_on j.grid h (Deliver p given) q c refl)
holds_after j h (Release p) q c legal a = (to, from)
  where
    to : Holds j.grid (h ++ Release p ∷ []) q c → Holds j.grid h q c × (q ≢ p)
    to x = (
      held_before j.grid h (Release p) q c (no_claim q (Release p) refl) x,
      λ s. none-some (length h) (sym x.6 ∙ place_comes (is_release_of q) h (Release p) (eq-eqb p q (sym s)) (no_release h (Release p) q x.6)),
    )

    from : Holds j.grid h q c × (q ≢ p) → Holds j.grid (h ++ Release p ∷ []) q c
    from x = held_on j.grid h (Release p) q c (ne_eqb p q (λ s. x.1 (sym s))) x.0
holds_after j h (entry.Step f) q c legal a = (held_before j.grid h (entry.Step f) q c (no_claim q (entry.Step f) refl), held_on j.grid h (entry.Step f) q c refl)
holds_after j h (Settle p flip) q c legal a = (held_before j.grid h (Settle p flip) q c (no_claim q (Settle p flip) refl), held_on j.grid h (Settle p flip) q c refl)
