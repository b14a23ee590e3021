-- What holds of two claims of one slice.
use Rattle.std.specs.Prelude.{◌≡◌, ℕ, true, ◌<◌, List, slice_get, length, Option, Some}
use Rattle.pauli_product.specs.Signed.{Signed}
use Rattle.source_model.specs.declared.Static.{Static}
use Rattle.source_model.specs.Statics.{commuting}
use Rattle.board_core.specs.declared.Entry.TheVariants.{Claim}
use Rattle.board_core.specs.History.{History}
use Rattle.board_core.specs.Legal.{BoardJob, ClaimCell}
use Rattle.slice_write.specs.Slices.{slices_of}

-- the entry at this place is a claim of this slice
abbrev pub IsClaimAt : BoardJob → History → ℕ → ℕ → ℕ → Signed → Option ℕ → List ℕ → Type 0
IsClaimAt j h place slice p axis through cells =
    (state : Option ℕ) × (slice_get h place ≡ Some (Claim p axis through state cells)) × (slice_get (slices_of j h) place ≡ Some slice)

-- two claims of one slice share no held cell
abbrev pub ClaimsOfASliceAreApart : Type 0
ClaimsOfASliceAreApart = (j : BoardJob) (h : History) (slice m n p q c : ℕ) (a b : Signed) (s t : Option ℕ) (cs ds : List ℕ) →
    m < n → IsClaimAt j h m slice p a s cs → IsClaimAt j h n slice q b t ds → c < length j.grid.sites →
    ClaimCell j.grid a s cs c → ClaimCell j.grid b t ds c → ⊥

-- and their products commute
abbrev pub ClaimsOfASliceCommute : Type 0
ClaimsOfASliceCommute = (j : BoardJob) (h : History) (slice m n p q : ℕ) (a b : Signed) (s t : Option ℕ) (cs ds : List ℕ) (u v : Static) →
    m < n → IsClaimAt j h m slice p a s cs → IsClaimAt j h n slice q b t ds →
    slice_get j.products p ≡ Some u → slice_get j.products q ≡ Some v → commuting u v ≡ true
