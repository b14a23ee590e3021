-- A product's place over the products before it.
use Rattle.std.proofs.Common.{◌≡◌, ℕ, ◌+◌, ◌-◌, ◌<◌, ◌≤◌, true, false, not, List, [], ◌∷◌, ◌++◌, length, get_or, inl, inr, sym, ap, ◌∙◌, subst, arith}
use Rattle.std.proofs.lemmas.Bool.{cases_lt, not-true, not-false, both_ways}
use Rattle.std.proofs.lemmas.List.{get_or_append_left, get_or_push, length_push}
use Rattle.pauli_product.specs.Signed.{Signed}
use Rattle.commute_order.specs.declared.Uses.{Uses}
use Rattle.commute_order.specs.Commuting.{commuting_at}
use Rattle.layer_pass.specs.Layering.{IsLeastNumber, IsBelow}
use Rattle.layer_pass.specs.inside.Drafts.{IsPlace, IsFilled, IsDraft}
use Rattle.layer_pass.proofs.Finds.{IsFirstAt, none_passes, found_at}
use Rattle.layer_pass.proofs.Rising.{lower_first}
use Rattle.layer_pass.proofs.Rows.{place_in, layer_before, layer_last}

module _ (ps : List Signed) (us : List Uses) where
  -- ---- one more product
  module _ (layer before : List ℕ) (rows : List (List ℕ)) (below blocker : ℕ) (draft : IsDraft ps us layer before) (filled : IsFilled layer rows) (low : below ≤ length rows) (size : length before ≡ length layer) (place : IsPlace ps us rows (length layer) below blocker) where
    abbrev p : ℕ
    p = length layer

    abbrev new : List ℕ
    new = layer ++ (below + 1) ∷ []

    -- a product that doesn't commute with the new one stands in one of the layers below it
    clash_below : (i : ℕ) → i < p → commuting_at ps us i p ≡ false → get_or layer i 0 < below + 1
    clash_below i h clash =
        elim (cases_lt (get_or layer i 0) (below + 1)) [
          | inl lower ↦ lower
          | inr higher ↦
              let number = filled.numbers i 0 h in
              let k = get_or layer i 0 - 1 in
              let inside : k < length rows = omega (arith, number.1) in
              let over : below ≤ k = omega arith in
              let own : get_or layer i 0 ≡ k + 1 = omega arith in
              let at = place_in (get_or rows k []) i ((filled.row k inside).whole i h own) in
              let silent : not (commuting_at ps us (get_or (get_or rows k []) at.0 0) p) ≡ false = none_passes (λ j. not (commuting_at ps us j p)) (get_or rows k []) (place.above k over inside) at.0 at.1.within in
              let same : commuting_at ps us i p ≡ true = sym (ap (λ j. commuting_at ps us j p) at.1.is) ∙ not-false _ silent in
              absurd (both_ways _ clash same)
        ]

    more_apart : (i j : ℕ) → i < j → j < length new → commuting_at ps us i j ≡ false → get_or new i 0 < get_or new j 0
    more_apart i j h l clash =
        let first = layer_before layer (below + 1) i (omega (arith, length_push layer (below + 1))) in
        elim (cases_lt j p) [
          | inl old ↦
              let second = layer_before layer (below + 1) j old in
              let less = draft.apart i j h old clash in
              omega arith
          | inr last ↦
              let at : j ≡ p = omega (arith, length_push layer (below + 1)) in
              let clash' : commuting_at ps us i p ≡ false = ap (commuting_at ps us i) (sym at) ∙ clash in
              let second : get_or new j 0 ≡ below + 1 = ap (λ q. get_or new q 0) at ∙ layer_last layer (below + 1) in
              let less = clash_below i (omega arith) clash' in
              omega arith
        ]

    -- the new product is held by its blocker
    held_by : (n : ℕ) → 0 < below → IsFirstAt (λ j. not (commuting_at ps us j p)) (get_or rows (below - 1) []) blocker n → IsLeastNumber (IsBelow ps us new p) blocker
    held_by n h first =
        let row = get_or rows (below - 1) [] in
        let number : below - 1 + 1 ≡ below = omega arith in
        let is = filled.row (below - 1) (omega arith) in
        let member = is.members n 0 first.within in
        let earlier : blocker < p = subst (λ q. q < p) first.is member.0 in
        let old : get_or layer blocker 0 ≡ below = sym (ap (λ q. get_or layer q 0) first.is) ∙ member.1 ∙ number in
        let lower = layer_before layer (below + 1) blocker earlier in
        let own = layer_last layer (below + 1) in
        record {
          has = record { earlier = earlier; clash = not-true _ first.passes; one_less = omega arith };
          none_below = λ k less b.
              let same = layer_before layer (below + 1) k b.earlier in
              let one = b.one_less in
              let at_k : get_or layer k 0 ≡ below - 1 + 1 = omega arith in
              let at = place_in row k (is.whole k b.earlier at_k) in
              let ahead : get_or row at.0 0 < get_or row n 0 = subst (λ q. q < get_or row n 0) (sym at.1.is) (subst (λ q. k < q) (sym first.is) less) in
              let quiet = first.before at.0 (lower_first row is.rising at.0 n at.1.within ahead first.within) in
              both_ways _ b.clash (sym (ap (λ j. commuting_at ps us j p) at.1.is) ∙ not-false _ quiet);
        }

    held_still : (j : ℕ) → j < p → IsLeastNumber (IsBelow ps us layer j) (get_or before j 0) → IsLeastNumber (IsBelow ps us new j) (get_or before j 0)
    held_still j h least =
        let second = layer_before layer (below + 1) j h in
        record {
          has =
              let first = layer_before layer (below + 1) (get_or before j 0) (let e = least.has.earlier in omega arith) in
              record { earlier = least.has.earlier; clash = least.has.clash; one_less = let e = least.has.one_less in omega arith };
          none_below = λ k less b.
              let first = layer_before layer (below + 1) k (let e = b.earlier in omega arith) in
              least.none_below k less (record { earlier = b.earlier; clash = b.clash; one_less = let e = b.one_less in omega arith });
        }

    pub draft_more : IsDraft ps us new (before ++ blocker ∷ [])
    draft_more = record {
      apart = more_apart;
      held = λ j h high. elim (cases_lt j p) [
        | inl old ↦
            let same = layer_before layer (below + 1) j old in
            subst (IsLeastNumber (IsBelow ps us new j)) (sym (get_or_append_left before (blocker ∷ []) 0 j (omega arith)))
            (held_still j old (draft.held j old (omega arith)))
        | inr last ↦
            let at : p ≡ j = omega (arith, length_push layer (below + 1)) in
            let own : get_or new j 0 ≡ below + 1 = sym (ap (λ q. get_or new q 0) at) ∙ layer_last layer (below + 1) in
            let some : 0 < below = omega arith in
            let first = found_at (λ j. not (commuting_at ps us j p)) (get_or rows (below - 1) []) blocker (place.blocks some) in
            subst (λ q. IsLeastNumber (IsBelow ps us new q) (get_or (before ++ blocker ∷ []) q 0)) at
            (subst (IsLeastNumber (IsBelow ps us new p)) (sym (get_or_push before blocker 0 p size)) (held_by first.0 some first.1))
      ];
    }

  -- no product yet
  pub draft_none : IsDraft ps us [] []
  draft_none = record {
    apart = λ i j h l. absurd (omega arith);
    held = λ j h. absurd (omega arith);
  }
