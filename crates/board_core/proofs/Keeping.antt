-- What a board notes stays right with one entry more.
use Rattle.std.proofs.Common.{◌≡◌, ◌≢◌, ◌↔◌, ◌⊎◌, inl, inr, ℕ, ◌<◌, Bool, true, false, ◌==◌, nat_lt, if◌then◌else◌, List, [], ◌∷◌, ◌++◌, length, option_map, Option, Some, None, is_some, slice_get, refl, ap, ap₂, sym, ◌∙◌, arith, subst, append-nil, eq-eqb, ne_eqb}
use Rattle.std.proofs.Math.ListN.{set, length-set}
use Rattle.std.proofs.lemmas.Bool.{cases_eq, ltb-true, ltb-false, true≢false}
use Rattle.std.proofs.lemmas.Option.{same_Some, none-some, slice_get_within}
use Rattle.pauli_product.specs.Signed.{Signed}
use Rattle.pauli_product.specs.Pulls.{half, carry}
use Rattle.pauli_product.specs.Corrections.{effective, turn_if}
use Rattle.source_model.specs.declared.Given.{Given}
use Rattle.source_model.specs.declared.Kind.{Kind}
use Rattle.source_model.specs.declared.Kind.TheVariants as kind
use Rattle.source_model.specs.declared.Static.{Static}
use Rattle.source_model.specs.Outcomes.{raw_of}
use Rattle.board_core.specs.declared.bits.Written.{Written}
use Rattle.board_core.specs.declared.board.Standing.{Standing}
use Rattle.board_core.specs.declared.Entry.{Entry}
use Rattle.board_core.specs.declared.Entry.TheVariants.{Claim, Deliver, Release, Settle}
use Rattle.board_core.specs.History.{History, is_claim_of, is_done_by, is_release_of, claim_place, done_place, release_place}
use Rattle.board_core.specs.Legal.{BoardJob, Allowed, Legal, ClaimCell, Holds}
use Rattle.board_core.specs.View.{claimed_axis, rotation_turns, turns_by, turns_of}
use Rattle.board_core.specs.inside.Cells.{Taken, without}
use Rattle.board_core.specs.inside.BitsNow.{WritesBit, LastWritten}
use Rattle.board_core.specs.inside.Bits.{BitIs, BitsAre, after_write}
use Rattle.board_core.specs.Books.{standing_of, HoldersAre}
use Rattle.board_core.specs.inside.Books.{StandingsAre}
use Rattle.board_core.proofs.Places.{turns-push, delivered_done, done_stands}
use Rattle.board_core.proofs.Standings.{place_stays, place_comes}
use Rattle.board_core.proofs.CellTables.{get_set_same, get_set_other}
use Rattle.board_core.proofs.Holding.{holds_after}
use Rattle.board_core.proofs.Writing.{written_same, written_new, written_before}

-- ---- standings
pub standing_same : (h : History) (e : Entry) (q : ℕ) → is_claim_of q e ≡ false → is_done_by q e ≡ false → is_release_of q e ≡ false → standing_of (h ++ e ∷ []) q ≡ standing_of h q
standing_same h e q c d r =
    ap₂ (λ x (y : Option ℕ × Option ℕ). record { claim = x; deliver = y.0; release = y.1 }) (place_stays (is_claim_of q) h e c)
    (ap₂ (λ x y. (x, y)) (place_stays (is_done_by q) h e d) (place_stays (is_release_of q) h e r))

pub standing_claimed : (h : History) (p : ℕ) (axis : Signed) (through state : Option ℕ) (cells : List ℕ) → claim_place h p ≡ None → standing_of (h ++ Claim p axis through state cells ∷ []) p ≡ record { claim = Some (length h); deliver = done_place h p; release = release_place h p }
standing_claimed h p axis through state cells n =
    let e = Claim p axis through state cells in
    ap₂ (λ x (y : Option ℕ × Option ℕ). record { claim = x; deliver = y.0; release = y.1 }) (place_comes (is_claim_of p) h e (eq-eqb p p refl) n)
    (ap₂ (λ x y. (x, y)) (place_stays (is_done_by p) h e refl) (place_stays (is_release_of p) h e refl))

pub standing_done : (h : History) (p : ℕ) (e : Entry) → is_claim_of p e ≡ false → is_done_by p e ≡ true → is_release_of p e ≡ false → done_place h p ≡ None → standing_of (h ++ e ∷ []) p ≡ record { claim = claim_place h p; deliver = Some (length h); release = release_place h p }
standing_done h p e c d r n =
    ap₂ (λ x (y : Option ℕ × Option ℕ). record { claim = x; deliver = y.0; release = y.1 }) (place_stays (is_claim_of p) h e c)
    (ap₂ (λ x y. (x, y)) (place_comes (is_done_by p) h e d n) (place_stays (is_release_of p) h e r))

pub standing_released : (h : History) (p : ℕ) → release_place h p ≡ None → standing_of (h ++ Release p ∷ []) p ≡ record { claim = claim_place h p; deliver = done_place h p; release = Some (length h) }
standing_released h p n =
    ap₂ (λ x (y : Option ℕ × Option ℕ). record { claim = x; deliver = y.0; release = y.1 }) (place_stays (is_claim_of p) h (Release p) refl)
    (ap₂ (λ x y. (x, y)) (place_stays (is_done_by p) h (Release p) refl) (place_comes (is_release_of p) h (Release p) (eq-eqb p p refl) n))

pub standings_set : (j : BoardJob) (h : History) (e : Entry) (standings : List Standing) (p : ℕ) (s : Standing) → standing_of (h ++ e ∷ []) p ≡ s → ((q : ℕ) → p ≢ q → standing_of (h ++ e ∷ []) q ≡ standing_of h q) → StandingsAre j h standings → StandingsAre j (h ++ e ∷ []) (set standings p s)
standings_set j h e standings p s here others x = (
  length-set standings p s ∙ x.0,
  λ q l. elim (cases_eq p q) [
    | inl same ↦
        subst (λ (r : ℕ). slice_get (set standings p s) r ≡ Some (standing_of (h ++ e ∷ []) r)) same
        (get_set_same standings p s (let k = x.0 in omega arith) ∙ ap Some (sym here))
    | inr ne ↦ get_set_other standings p q s ne ∙ x.1 q l ∙ ap Some (sym (others q ne))
  ],
)

pub standings_same : (j : BoardJob) (h : History) (e : Entry) (standings : List Standing) → ((q : ℕ) → standing_of (h ++ e ∷ []) q ≡ standing_of h q) → StandingsAre j h standings → StandingsAre j (h ++ e ∷ []) standings
standings_same j h e standings others x = (x.0, λ q l. x.1 q l ∙ ap Some (sym (others q)))

-- ---- holders
pub holders_claim : (j : BoardJob) (h : History) (p : ℕ) (axis : Signed) (through state : Option ℕ) (cells : List ℕ) (old new : List (Option ℕ)) → Legal j h → Allowed j h (Claim p axis through state cells) → Taken (ClaimCell j.grid axis through cells) p old new → HoldersAre j h old → HoldersAre j (h ++ Claim p axis through state cells ∷ []) new
holders_claim j h p axis through state cells old new legal a t x =
    (t.0 ∙ x.0, λ c q l. one c q l (t.1 c (let s = x.0 in omega arith)))
  where
    one : (c q : ℕ) → c < length j.grid.sites → ((ClaimCell j.grid axis through cells c × (slice_get new c ≡ Some (Some p))) ⊎ ((ClaimCell j.grid axis through cells c → ⊥) × (slice_get new c ≡ slice_get old c))) → (slice_get new c ≡ Some (Some q)) ↔ Holds j.grid (h ++ Claim p axis through state cells ∷ []) q c
    one c q l (inl y) = (
      λ e. (holds_after j h (Claim p axis through state cells) q c legal a).1 (inr (sym (same_Some p q (same_Some (Some p) (Some q) (sym y.1 ∙ e))), y.0)),
      λ e. elim ((holds_after j h (Claim p axis through state cells) q c legal a).0 e) [ inl z ↦ absurd (a.free c q y.0 z) | inr z ↦ y.1 ∙ ap (λ r. Some (Some r)) (sym z.0) ],
    )
    one c q l (inr y) = (
      λ e. (holds_after j h (Claim p axis through state cells) q c legal a).1 (inl ((x.1 c q l).0 (sym y.1 ∙ e))),
      λ e. elim ((holds_after j h (Claim p axis through state cells) q c legal a).0 e) [ inl z ↦ y.1 ∙ (x.1 c q l).1 z | inr z ↦ absurd (y.0 z.1) ],
    )

freed : (o : Option (Option ℕ)) (p q : ℕ) → (option_map (without p) o ≡ Some (Some q)) ↔ ((o ≡ Some (Some q)) × (q ≢ p))
freed None p q = (λ e. absurd (none-some (Some q) e), λ e. absurd (none-some (Some q) e.0))
freed (Some None) p q = (λ e. absurd (none-some q (same_Some None (Some q) e)), λ e. absurd (none-some q (same_Some None (Some q) e.0)))
freed (Some (Some r)) p q = (to (r == p) refl, from)
  where
    to : (b : Bool) → (r == p) ≡ b → Some (if b then None else Some r) ≡ Some (Some q) → (Some (Some r) ≡ Some (Some q)) × (q ≢ p)
    to true e s = absurd (none-some q (same_Some None (Some q) s))
    to false e s = (s, λ z. true≢false (sym (eq-eqb r p (same_Some r q (same_Some (Some r) (Some q) s) ∙ z)) ∙ e))

    from : (Some (Some r) ≡ Some (Some q)) × (q ≢ p) → Some (if r == p then None else Some r) ≡ Some (Some q)
    from x = ap (λ b. Some (if b then None else Some r)) (ne_eqb r p (λ z. x.1 (sym (same_Some r q (same_Some (Some r) (Some q) x.0)) ∙ z))) ∙ x.0

pub holders_release : (j : BoardJob) (h : History) (p : ℕ) (old new : List (Option ℕ)) → Legal j h → Allowed j h (Release p) → length new ≡ length old → ((c : ℕ) → slice_get new c ≡ option_map (without p) (slice_get old c)) → HoldersAre j h old → HoldersAre j (h ++ Release p ∷ []) new
holders_release j h p old new legal a size t x = (
  size ∙ x.0,
  λ c q l. (
    λ e. let z = (freed (slice_get old c) p q).0 (sym (t c) ∙ e) in (holds_after j h (Release p) q c legal a).1 ((x.1 c q l).0 z.0, z.1),
    λ e. let z = (holds_after j h (Release p) q c legal a).0 e in t c ∙ (freed (slice_get old c) p q).1 ((x.1 c q l).1 z.0, z.1),
  ),
)

pub holders_same : (j : BoardJob) (h : History) (e : Entry) (holders : List (Option ℕ)) → ((q c : ℕ) → Holds j.grid (h ++ e ∷ []) q c ↔ Holds j.grid h q c) → HoldersAre j h holders → HoldersAre j (h ++ e ∷ []) holders
holders_same j h e holders others x = (x.0, λ c q l. (λ s. (others q c).1 ((x.1 c q l).0 s), λ s. (x.1 c q l).1 ((others q c).0 s)))

-- ---- bits
pub bits_same : (j : BoardJob) (h : History) (e : Entry) (bits : List Written) → ((b q : ℕ) → WritesBit j b q → is_done_by q e ≡ false) → BitsAre j h bits → BitsAre j (h ++ e ∷ []) bits
bits_same j h e bits others x b w s = written_same j h e b w.by w.value (others b) (x b w s)

one_write : (j : BoardJob) (h : History) (b p : ℕ) (axis : Signed) (g : Given) (by : Option ℕ) (v : Bool) → WritesBit j b p → claimed_axis h p ≡ Some axis → done_place h p ≡ None → LastWritten j h b by v → BitIs j (h ++ Deliver p g ∷ []) b (after_write (record { by = by; value = v }) p (effective axis (raw_of g)))
one_write j h b p axis g None v writes claimed once x = written_new j h b p axis g writes claimed once None v (λ q s. absurd (none-some q s)) x
one_write j h b p axis g (Some q) v writes claimed once x = go (nat_lt p q) refl
  where
    go : (c : Bool) → nat_lt p q ≡ c → BitIs j (h ++ Deliver p g ∷ []) b (if c then record { by = Some q; value = v } else record { by = Some p; value = effective axis (raw_of g) })
    go true s = written_before j h b p axis g writes claimed once q v (let l = ltb-true p q s in omega arith) x
    go false s = written_new j h b p axis g writes claimed once (Some q) v (λ r e. below r (same_Some q r e)) x
      where
        -- p isn't the last writer, since it isn't done
        other : p ≢ q
        other e = true≢false (sym (done_stands h q ∙ delivered_done h q (ap is_some x.1.3)) ∙ ap is_some (subst (λ r. done_place h r ≡ None) e once))

        below : (r : ℕ) → q ≡ r → r < p
        below r e = let l = ltb-false p q s in let ne = other in omega arith

abbrev bit_in : Kind → ℕ
bit_in kind.Rotation = 0
bit_in (kind.Measure d) = d
bit_in (kind.Settle first size value) = 0

same_bit : (j : BoardJob) (b c p q : ℕ) → WritesBit j b p → WritesBit j c q → p ≡ q → b ≡ c
same_bit j b c p q x y e =
    let s = same_Some x.0 y.0 (sym x.1 ∙ ap (slice_get j.products) e ∙ y.1) in
    bit_of_kind (kind.Measure b) (kind.Measure c) (sym x.2 ∙ ap (λ (t : Static). t.kind) s ∙ y.2)
  where
    bit_of_kind : (k l : Kind) → k ≡ l → bit_in k ≡ bit_in l
    bit_of_kind k l s = ap bit_in s

pub bits_write : (j : BoardJob) (h : History) (b p : ℕ) (axis : Signed) (g : Given) (bits : List Written) (w : Written) → WritesBit j b p → claimed_axis h p ≡ Some axis → done_place h p ≡ None → slice_get bits b ≡ Some w → BitsAre j h bits → BitsAre j (h ++ Deliver p g ∷ []) (set bits b (after_write w p (effective axis (raw_of g))))
bits_write j h b p axis g bits w writes claimed once at x c u s =
    elim (cases_eq b c) [
      | inl e ↦
          let mine = get_set_same bits b (after_write w p (effective axis (raw_of g))) (slice_get_within bits b w at) in
          let is = same_Some (after_write w p (effective axis (raw_of g))) u (sym mine ∙ ap (slice_get (set bits b (after_write w p (effective axis (raw_of g))))) e ∙ s) in
          subst (λ (y : Written). BitIs j (h ++ Deliver p g ∷ []) c y) is
          (subst (λ (d : ℕ). BitIs j (h ++ Deliver p g ∷ []) d (after_write w p (effective axis (raw_of g)))) e
          (one_write j h b p axis g w.by w.value writes claimed once (x b w at)))
      | inr ne ↦
          written_same j h (Deliver p g) c u.by u.value (λ q y. ne_eqb p q (λ same. ne (same_bit j b c p q writes y same)))
          (x c u (sym (get_set_other bits b c (after_write w p (effective axis (raw_of g))) ne) ∙ s))
    ]

-- ---- corrections
pub turns_quiet : (products : List Static) (h : History) (e : Entry) → turns_by products h (turns_of products h) e ≡ [] → turns_of products (h ++ e ∷ []) ≡ turns_of products h
turns_quiet products h e q = turns-push products h e ∙ ap (λ t. turns_of products h ++ t) q ∙ append-nil (turns_of products h)

pub turns_deliver : (products : List Static) (h : History) (p : ℕ) (axis : Signed) (g : Given) → claimed_axis h p ≡ Some axis → turns_of products (h ++ Deliver p g ∷ []) ≡ turns_of products h ++ rotation_turns axis g
turns_deliver products h p axis g e =
    turns-push products h (Deliver p g)
    ∙ ap (λ (o : Option Signed). turns_of products h ++ (elim o [ None ↦ [] | Some a ↦ rotation_turns a g ])) e

pub turns_settle : (products : List Static) (h : History) (p : ℕ) (flip : Bool) (s : Static) → slice_get products p ≡ Some s → turns_of products (h ++ Settle p flip ∷ []) ≡ turns_of products h ++ turn_if flip (carry (turns_of products h) s.axis) half
turns_settle products h p flip s e =
    turns-push products h (Settle p flip)
    ∙ ap (λ (o : Option Static). turns_of products h ++ (elim o [ None ↦ [] | Some t ↦ turn_if flip (carry (turns_of products h) t.axis) half ])) e
