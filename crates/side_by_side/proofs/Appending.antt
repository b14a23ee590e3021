-- A run of items one list after another.
use Rattle.std.proofs.Common.{◌≡◌, ◌+◌, Bool, true, false, if◌then◌else◌, List, [], ◌∷◌, ◌++◌, length, refl, ap, ◌∙◌, arith}
use Rattle.pauli_product.specs.Signed.{Signed}
use Rattle.source_model.specs.declared.Item.{Item}
use Rattle.source_model.specs.declared.Given.{Given}
use Rattle.source_model.specs.declared.Given.TheVariants.{Settled}
use Rattle.source_model.specs.SourceRun.{Progress, axis_in, is_product, axis_of, after, next_of, rest_of, axes_from, progress_after}
use Rattle.side_by_side.specs.Joined.{products_in}
use Rattle.side_by_side.proofs.Counting.{products-cons}

-- the axes, and the progress after both lists
pub record Appends (f : Progress) (is js : List Item) (gs hs : List Given) : Type 0 where
  pub axes : axes_from f (is ++ js) (gs ++ hs) ≡ axes_from f is gs ++ axes_from (progress_after f is gs) js hs
  pub progress : progress_after f (is ++ js) (gs ++ hs) ≡ progress_after (progress_after f is gs) js hs

-- with an item that is a product or isn't
abbrev axes_step : Bool → Progress → Item → List Item → List Given → List Signed
axes_step b f i is gs = if b then (axis_in f (axis_of i) ∷ axes_from (after f i (next_of gs)) is (rest_of gs)) else axes_from (after f i Settled) is gs

abbrev progress_step : Bool → Progress → Item → List Item → List Given → Progress
progress_step b f i is gs = if b then progress_after (after f i (next_of gs)) is (rest_of gs) else progress_after (after f i Settled) is gs

record AppendsStep (b : Bool) (f : Progress) (i : Item) (is js : List Item) (gs hs : List Given) : Type 0 where
  axes : axes_step b f i (is ++ js) (gs ++ hs) ≡ axes_step b f i is gs ++ axes_from (progress_step b f i is gs) js hs
  progress : progress_step b f i (is ++ js) (gs ++ hs) ≡ progress_after (progress_step b f i is gs) js hs

append_step : (b : Bool) (f : Progress) (i : Item) (is js : List Item) (gs hs : List Given) → length gs ≡ (if b then 1 else 0) + products_in is →
    ((f' : Progress) (gs' : List Given) → length gs' ≡ products_in is → Appends f' is js gs' hs) → AppendsStep b f i is js gs hs
append_step true f i is js [] hs e rest = absurd (omega arith)
append_step true f i is js (g ∷ gs) hs e rest =
    let r = rest (after f i g) gs (omega arith) in
    record { axes = ap (λ as'. axis_in f (axis_of i) ∷ as') r.axes; progress = r.progress }
append_step false f i is js gs hs e rest =
    let r = rest (after f i Settled) gs (omega arith) in
    record { axes = r.axes; progress = r.progress }

pub run_append : (f : Progress) (is js : List Item) (gs hs : List Given) → length gs ≡ products_in is → Appends f is js gs hs
run_append f [] js [] hs e = record { axes = refl; progress = refl }
run_append f [] js (g ∷ gs) hs e = absurd (omega arith)
run_append f (i ∷ is) js gs hs e =
    let r = append_step (is_product i) f i is js gs hs (e ∙ products-cons i is) (λ f' gs' e'. run_append f' is js gs' hs e') in
    record { axes = r.axes; progress = r.progress }
