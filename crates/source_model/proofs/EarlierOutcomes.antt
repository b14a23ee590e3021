-- A product's axis depends on earlier outcomes alone.
use Rattle.std.proofs.Common.{◌≡◌, ℕ, zero, suc, List, [], ◌∷◌, take, slice_get, refl, ap, ◌∙◌}
use Rattle.source_model.specs.declared.Angle.TheVariants.{Eighth, Quarter, Half}
use Rattle.source_model.specs.declared.Item.{Item}
use Rattle.source_model.specs.declared.Item.TheVariants as item
use Rattle.source_model.specs.declared.Given.{Given}
use Rattle.source_model.specs.declared.Given.TheVariants.{Settled}
use Rattle.source_model.specs.SourceRun.{Progress, fresh, after, next_of, rest_of, axes_from, axes}

same_next : (k : ℕ) (gs hs : List Given) → take (suc k) gs ≡ take (suc k) hs → (next_of gs ≡ next_of hs) × (take k (rest_of gs) ≡ take k (rest_of hs))
same_next k [] [] e = (refl, refl)
same_next k [] (h ∷ hs) e = cc
same_next k (g ∷ gs) [] e = cc
same_next k (g ∷ gs) (h ∷ hs) e = (cc, cc)

-- behind a product
later : (f : Progress) (i : Item) (is : List Item) (gs hs : List Given) (k : ℕ) → take (suc k) gs ≡ take (suc k) hs →
    (take k (rest_of gs) ≡ take k (rest_of hs) → slice_get (axes_from (after f i (next_of hs)) is (rest_of gs)) k ≡ slice_get (axes_from (after f i (next_of hs)) is (rest_of hs)) k) →
    slice_get (axes_from (after f i (next_of gs)) is (rest_of gs)) k ≡ slice_get (axes_from (after f i (next_of hs)) is (rest_of hs)) k
later f i is gs hs k e rest =
    let same = same_next k gs hs e in
    ap (λ g. slice_get (axes_from (after f i g) is (rest_of gs)) k) same.0 ∙ rest same.1

same_axis_from : (f : Progress) (items : List Item) (gs hs : List Given) (k : ℕ) → take k gs ≡ take k hs → slice_get (axes_from f items gs) k ≡ slice_get (axes_from f items hs) k
same_axis_from f [] gs hs k e = refl
same_axis_from f (item.Turn axis Quarter ∷ is) gs hs k e = same_axis_from (after f (item.Turn axis Quarter) Settled) is gs hs k e
same_axis_from f (item.Turn axis Half ∷ is) gs hs k e = same_axis_from (after f (item.Turn axis Half) Settled) is gs hs k e
same_axis_from f (item.Turn axis Eighth ∷ is) gs hs zero e = refl
same_axis_from f (item.Turn axis Eighth ∷ is) gs hs (suc k) e = later f (item.Turn axis Eighth) is gs hs k e (same_axis_from (after f (item.Turn axis Eighth) (next_of hs)) is (rest_of gs) (rest_of hs) k)
same_axis_from f (item.Measure axis bit ∷ is) gs hs zero e = refl
same_axis_from f (item.Measure axis bit ∷ is) gs hs (suc k) e = later f (item.Measure axis bit) is gs hs k e (same_axis_from (after f (item.Measure axis bit) (next_of hs)) is (rest_of gs) (rest_of hs) k)
same_axis_from f (item.If axis first size value ∷ is) gs hs zero e = refl
same_axis_from f (item.If axis first size value ∷ is) gs hs (suc k) e = later f (item.If axis first size value) is gs hs k e (same_axis_from (after f (item.If axis first size value) (next_of hs)) is (rest_of gs) (rest_of hs) k)

pub same_axis : (items : List Item) (gs hs : List Given) (k : ℕ) → take k gs ≡ take k hs → slice_get (axes items gs) k ≡ slice_get (axes items hs) k
same_axis items gs hs k e = same_axis_from fresh items gs hs k e
