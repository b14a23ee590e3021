-- A bit is the last outcome that was measured into it.
use Rattle.std.proofs.Common.{◌≡◌, ℕ, Bool, true, false, if◌then◌else◌, List, [], ◌∷◌, refl, ap, ◌∙◌}
use Rattle.pauli_product.specs.Pulls.{turn, half}
use Rattle.pauli_product.specs.Signed.{Signed}
use Rattle.source_model.specs.declared.Angle.TheVariants.{Eighth, Quarter, Half}
use Rattle.source_model.specs.declared.Item.{Item}
use Rattle.source_model.specs.declared.Item.TheVariants as item
use Rattle.source_model.specs.declared.Given.{Given}
use Rattle.source_model.specs.declared.Given.TheVariants.{Settled}
use Rattle.source_model.specs.Outcomes.{bit_of}
use Rattle.source_model.specs.SourceRun.{Progress, fresh, after, flips, turned, axes_from, axes, progress_after, bit_after}
use Rattle.source_model.specs.Circuits.{kinds, OutcomesOf, RightKinds}
use Rattle.source_model.specs.Bits.{bit_after_products, effective_outcomes, last_outcome_into}

-- a settled product writes no bit
settled_writes : (b : Bool) (f : Progress) (axis : Signed) → (if b then turned (turn axis half ∷ []) f else f).writes ≡ f.writes
settled_writes true f axis = refl
settled_writes false f axis = refl

behind : (f : Progress) (items : List Item) (gs : List Given) (bit : ℕ) → OutcomesOf (kinds items) gs →
    bit_of (progress_after f items gs).writes bit ≡ bit_after_products (bit_of f.writes bit) bit (kinds items) (effective_outcomes (axes_from f items gs) gs)
behind f [] gs bit h = refl
behind f (item.Turn axis Quarter ∷ is) gs bit h = behind (after f (item.Turn axis Quarter) Settled) is gs bit h
behind f (item.Turn axis Half ∷ is) gs bit h = behind (after f (item.Turn axis Half) Settled) is gs bit h
behind f (item.Turn axis Eighth ∷ is) [] bit h = absurd h
behind f (item.Turn axis Eighth ∷ is) (g ∷ gs) bit h = behind (after f (item.Turn axis Eighth) g) is gs bit h.1
behind f (item.Measure axis b ∷ is) [] bit h = absurd h
behind f (item.Measure axis b ∷ is) (g ∷ gs) bit h = behind (after f (item.Measure axis b) g) is gs bit h.1
behind f (item.If axis first size value ∷ is) [] bit h = absurd h
behind f (item.If axis first size value ∷ is) (g ∷ gs) bit h =
    behind (after f (item.If axis first size value) g) is gs bit h.1
    ∙ ap (λ w. bit_after_products (bit_of w bit) bit (kinds is) (effective_outcomes (axes_from (after f (item.If axis first size value) g) is gs) gs)) (settled_writes (flips f first size value) f axis)

pub bit_is_last_outcome : (items : List Item) (gs : List Given) (bit : ℕ) → RightKinds items gs → bit_after items gs bit ≡ last_outcome_into bit (kinds items) (effective_outcomes (axes items gs) gs)
bit_is_last_outcome items gs bit h = behind fresh items gs bit h
