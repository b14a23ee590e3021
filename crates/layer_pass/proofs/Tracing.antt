-- What the placed products and the chain traced through them say of all layerings.
use Rattle.std.proofs.Common.{◌≡◌, ℕ, zero, suc, ◌+◌, ◌-◌, ◌<◌, ◌≤◌, List, [], length, get_or, inl, inr, sym, ap, ◌∙◌, subst, arith}
use Rattle.std.proofs.lemmas.Bool.{cases_lt, true_from_ne_false}
use Rattle.std.proofs.lemmas.List.Elements.{All-from_get_or}
use Rattle.pauli_product.specs.Signed.{Signed}
use Rattle.commute_order.specs.declared.Uses.{Uses}
use Rattle.commute_order.specs.Commuting.{commuting_at}
use Rattle.layer_pass.specs.Layering.{IsLayering, IsChain, IsLeastNumber, IsBelow, IsTraced}
use Rattle.layer_pass.specs.inside.Drafts.{IsFilled, IsDraft, IsWalk}
use Rattle.layer_pass.proofs.Rising.{rising_le}
use Rattle.layer_pass.proofs.Rows.{place_in}
use Rattle.layer_pass.proofs.Bounds.{chains_bound_layerings}

module _ (ps : List Signed) (us : List Uses) (layer before : List ℕ) (rows : List (List ℕ)) (size : length layer ≡ length ps) (draft : IsDraft ps us layer before) (filled : IsFilled layer rows) where
  pub is_layering : IsLayering ps us layer (length rows)
  is_layering = record {
    size = size;
    numbers = filled.numbers;
    together = λ i j h l same. true_from_ne_false (commuting_at ps us i j) (λ clash. let less = draft.apart i j h (omega arith) clash in omega arith);
    apart = λ i j h l clash. draft.apart i j h (omega arith) clash;
  }

  -- no layering puts a product lower
  lowest_below : (other : List ℕ) (count : ℕ) → IsLayering ps us other count → (n p : ℕ) → p < n → p < length layer → get_or layer p 0 ≤ get_or other p 0
  lowest_below other count l zero p h inside = absurd (omega arith)
  lowest_below other count l (suc n) p h inside =
      elim (cases_lt 1 (get_or layer p 0)) [
        | inr first ↦
            let number = l.numbers p 0 (omega (arith, l.size)) in
            omega (arith, number.0)
        | inl high ↦
            let held = draft.held p inside high in
            let b = get_or before p 0 in
            let earlier : b < p = held.has.earlier in
            let lower = lowest_below other count l n b (omega arith) (omega arith) in
            let rises = l.apart b p earlier (omega arith) held.has.clash in
            let one = held.has.one_less in
            omega arith
      ]

  pub lowest : (other : List ℕ) (count : ℕ) → IsLayering ps us other count → (p : ℕ) → p < length layer → get_or layer p 0 ≤ get_or other p 0
  lowest other count l p h = lowest_below other count l (p + 1) p (omega arith) h

  module _ (chain : List ℕ) (walk : IsWalk rows before chain) where
    -- the product at place i of the chain stands in layer i + 1
    record Stands (i : ℕ) : Type 0 where
      pub within : get_or chain i 0 < length layer
      pub number : get_or layer (get_or chain i 0) 0 ≡ i + 1

    stands : (d i : ℕ) → i + d + 1 ≡ length rows → Stands i
    stands zero i e =
        let row = filled.row i (omega arith) in
        let member = row.members 0 0 row.some in
        let at = walk.last i (omega arith) in
        record {
          within = subst (λ q. q < length layer) (sym at) member.0;
          number = ap (λ q. get_or layer q 0) at ∙ member.1;
        }
    stands (suc d) i e =
        let next = stands d (i + 1) (omega arith) in
        let at = walk.back i (omega arith) in
        let held = draft.held (get_or chain (i + 1) 0) next.within (let n = next.number in omega arith) in
        let earlier : get_or before (get_or chain (i + 1) 0) 0 < get_or chain (i + 1) 0 = held.has.earlier in
        record {
          within = let n = next.within in omega arith;
          number =
              let one = held.has.one_less in
              let n = next.number in
              ap (λ q. get_or layer q 0) at ∙ omega arith;
        }

    stands_at : (i : ℕ) → i < length rows → Stands i
    stands_at i h = stands (length rows - (i + 1)) i (omega arith)

    -- what holds each product of the chain but the first in its layer
    held_at : (i : ℕ) → i + 1 < length rows → IsLeastNumber (IsBelow ps us layer (get_or chain (i + 1) 0)) (get_or chain i 0)
    held_at i h =
        let next = stands_at (i + 1) h in
        subst (IsLeastNumber (IsBelow ps us layer (get_or chain (i + 1) 0))) (sym (walk.back i h))
        (draft.held (get_or chain (i + 1) 0) next.within (let n = next.number in omega arith))

    pub is_traced : IsTraced ps us layer chain
    is_traced = record {
      last = λ i e.
          let top : i + 1 ≡ length rows = e ∙ walk.size in
          let row = filled.row i (omega arith) in
          let here = stands_at i (omega arith) in
          let at = walk.last i top in
          record {
            has = record { within = here.within; last = here.number ∙ e };
            none_below = λ k less last.
                let place = place_in (get_or rows i []) k (row.whole k last.within (last.last ∙ sym e)) in
                let le = rising_le (get_or rows i []) row.rising 0 place.0 (let w = place.1.within in omega arith) in
                let none : 0 + place.0 ≡ place.0 = omega arith in
                let le' : get_or (get_or rows i []) 0 0 ≤ get_or (get_or rows i []) place.0 0 = rw none at le in
                let is = place.1.is in
                omega arith;
          };
      before = λ i h. held_at i (omega (arith, walk.size));
    }

    pub is_chain : IsChain ps us chain
    is_chain = record {
      products = All-from_get_or (λ p. p < length ps) chain 0 (λ k h. let stand = stands_at k (omega (arith, walk.size)) in let w = stand.within in omega arith);
      rising = λ k h. let held = held_at k (omega (arith, walk.size)) in held.has.earlier;
      clashes = λ i h. let held = held_at i (omega (arith, walk.size)) in held.has.clash;
    }

    pub fewest : (other : List ℕ) (count : ℕ) → IsLayering ps us other count → length rows ≤ count
    fewest other count l =
        let bound = chains_bound_layerings ps us chain other count is_chain l in
        let same = walk.size in
        omega arith
