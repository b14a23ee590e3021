-- A worked example: three products on one qubit, one after another, through one factory.
use Rattle.std.specs.Prelude.{◌≡◌, true, false, ◌++◌, [], ◌∷◌, replicate, map, Some, None, refl}
use Rattle.pauli_product.specs.declared.Letter.{Letter}
use Rattle.pauli_product.specs.declared.Letter.TheVariants.{X, Y, Z}
use Rattle.pauli_product.specs.Signed.{Signed, commute}
use Rattle.source_model.specs.declared.Given.TheVariants as given
use Rattle.source_model.specs.declared.Kind.TheVariants as kind
use Rattle.patch_layout.specs.declared.layout.Site.TheVariants as site
use Rattle.board_core.specs.declared.Entry.TheVariants.{Claim, Deliver, Release, Step}
use Rattle.board_core.specs.History.{History}
use Rattle.board_core.specs.Legal.{BoardJob}
use Rattle.slice_write.specs.Pictures.{holder, in_slice}
use Rattle.slice_write.specs.Slices.{slices_of, upto, sliced, slice_of, greatest_of, shares_cell, is_claim_cell, commute_at, made_at, states_made_by}

abbrev pub plus : Letter → Signed
plus l = record { sign = false; letters = l ∷ [] }

abbrev pub minus : Letter → Signed
minus l = record { sign = true; letters = l ∷ [] }

abbrev pub three : BoardJob
three =
    record {
      products = record { axis = plus Z; kind = kind.Rotation } ∷ record { axis = plus X; kind = kind.Rotation } ∷ record { axis = plus X; kind = kind.Measure 0 } ∷ [];
      grid = record { rows = 2; columns = 4; sites = site.Ancilla ∷ site.Ancilla ∷ site.Ancilla ∷ site.Ancilla ∷ site.Ancilla ∷ site.Patch 0 true ∷ site.Ancilla ∷ site.Port 0 true 1 ∷ [] };
      fails = [];
    }

abbrev pub run : History
run = replicate 11 (Step 0)

abbrev pub history : History
history =
    run ++ Claim 0 (plus Z) (Some 0) (Some 0) (1 ∷ 2 ∷ 3 ∷ []) ∷ Deliver 0 (given.Rotation true false) ∷ Release 0 ∷ []
    ++ run ++ Claim 1 (minus Y) (Some 0) (Some 1) (1 ∷ 2 ∷ 3 ∷ 6 ∷ []) ∷ Deliver 1 (given.Rotation false false) ∷ Release 1 ∷ []
    ++ Claim 2 (minus Y) None None (0 ∷ 1 ∷ 4 ∷ []) ∷ Deliver 2 (given.Measure false) ∷ Release 2 ∷ []

pub three_slices : slices_of three history ≡ 1 ∷ 2 ∷ 3 ∷ 4 ∷ 5 ∷ 6 ∷ 7 ∷ 8 ∷ 9 ∷ 10 ∷ 11 ∷ 12 ∷ 12 ∷ 12 ∷ 13 ∷ 14 ∷ 15 ∷ 16 ∷ 17 ∷ 18 ∷ 19 ∷ 20 ∷ 21 ∷ 22 ∷ 23 ∷ 24 ∷ 24 ∷ 24 ∷ 25 ∷ 25 ∷ 25 ∷ []
unfolding commute sliced slice_of greatest_of shares_cell is_claim_cell commute_at made_at states_made_by
three_slices = refl

-- the products that the pictures of its three claims show, cell by cell
pub three_pictures : map (λ n. map (holder three.grid (in_slice n (sliced three history))) (upto 8)) (12 ∷ 24 ∷ 25 ∷ [])
    ≡ (None ∷ Some 0 ∷ Some 0 ∷ Some 0 ∷ None ∷ Some 0 ∷ None ∷ Some 0 ∷ [])
    ∷ (None ∷ Some 1 ∷ Some 1 ∷ Some 1 ∷ None ∷ Some 1 ∷ Some 1 ∷ Some 1 ∷ [])
    ∷ (Some 2 ∷ Some 2 ∷ None ∷ None ∷ Some 2 ∷ Some 2 ∷ None ∷ None ∷ [])
    ∷ []
unfolding commute sliced slice_of greatest_of shares_cell is_claim_cell commute_at made_at states_made_by
three_pictures = refl
