-- The greatest slice among the claims that share a held cell, by a table of cells.
use Rattle.std.proofs.Common.{◌≡◌, ℕ, ◌<◌, ◌≤◌, List, length, get_or, map, ap, sym, ◌∙◌, arith, inl, inr}
use Rattle.std.specs.Prelude.{Option, All, if◌then◌else◌}
use Rattle.std.proofs.lemmas.Bool.{cases_Bool}
use Rattle.pauli_product.specs.Signed.{Signed}
use Rattle.patch_layout.specs.Grid.{Grid}
use Rattle.slice_write.specs.Slices.{Sliced, greatest, greatest_of, shares_cell, holds_cell, is_claim_cell, is_among, upto}
use Rattle.slice_write.specs.inside.Numbers.{greatest_at}
use Rattle.slice_write.proofs.Among.{among_upto, upto_below, among_all}
use Rattle.slice_write.proofs.Greatest.{greatest_any, value_le, values_le}

pub shared_is : (g : Grid) (axis : Signed) (through : Option ℕ) (region held table : List ℕ) (done : List Sliced)
    → ((c : ℕ) → is_among held c ≡ is_claim_cell g axis through region c) → All (λ c. c < length g.sites) held
    → ((c : ℕ) → c < length g.sites → get_or table c 0 ≡ greatest_of (holds_cell g c) done)
    → greatest_at table held ≡ greatest_of (shares_cell g axis through region) done
unfolding shares_cell
shared_is g axis through region held table done same inside latest =
    let mine = is_claim_cell g axis through region in
    let F : ℕ → ℕ = λ c. if mine c then greatest_of (holds_cell g c) done else 0 in
    let all : greatest_of (shares_cell g axis through region) done ≡ greatest (map F (upto (length g.sites))) = greatest_any mine (λ c e. holds_cell g c e) (upto (length g.sites)) done in
    let up : greatest_at table held ≤ greatest (map F (upto (length g.sites))) = values_le (λ c. get_or table c 0) _ held (λ c among.
    let low : c < length g.sites = among_all (λ d. d < length g.sites) held c inside among in
    let here : F c ≡ get_or table c 0 = ap (λ b. if b then greatest_of (holds_cell g c) done else 0) (sym (same c) ∙ among) ∙ sym (latest c low) in
    omega (arith, here, value_le F (upto (length g.sites)) c (among_upto (length g.sites) c low))) in
    let down : greatest (map F (upto (length g.sites))) ≤ greatest_at table held = values_le F _ (upto (length g.sites)) (λ c among.
    let low : c < length g.sites = upto_below (length g.sites) c among in
    elim (cases_Bool (mine c)) [
      | inl holds ↦
          let here : F c ≡ get_or table c 0 = ap (λ b. if b then greatest_of (holds_cell g c) done else 0) holds ∙ sym (latest c low) in
          omega (arith, here, value_le (λ d. get_or table d 0) held c (same c ∙ holds))
      | inr other ↦
          let none : F c ≡ 0 = ap (λ b. if b then greatest_of (holds_cell g c) done else 0) other in
          omega (arith, none)
    ]) in
    omega (arith, all, up, down)
