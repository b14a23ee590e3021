-- The plain program's loop: what it has of a run behind the first items.
use Rattle.std.proofs.Common.{◌≡◌, ℕ, zero, suc, ◌+◌, ◌<◌, ◌≤◌, Bool, true, false, if◌then◌else◌, List, [], ◌∷◌, ◌++◌, Some, None, length, drop, get_or, refl, ap, ap₂, sym, ◌∙◌, append_assoc, append-nil, add-one}
use Rattle.std.proofs.Math.Seq.{drop-cons}
use Rattle.std.proofs.lemmas.List.{drop_all}
use Rattle.std.proofs.lemmas.List.Elements.{All-nil, All-get_or}
use Rattle.pauli_product.specs.Signed.{Signed, OfLength}
use Rattle.pauli_product.specs.Pulls.{Turn, TurnsOfLength, turn, quarter, half, pull}
use Rattle.pauli_product.specs.Corrections.{corrections}
use Rattle.pauli_product.proofs.Laws.{turns_joined, about_long, alike_about, corrections_alike}
use Rattle.source_model.specs.declared.Angle.TheVariants.{Eighth, Quarter, Half}
use Rattle.source_model.specs.declared.Item.{Item}
use Rattle.source_model.specs.declared.Item.TheVariants as item
use Rattle.source_model.specs.declared.Given.{Given}
use Rattle.source_model.specs.declared.Given.TheVariants.{Settled}
use Rattle.source_model.specs.inside.Bits.{BitsAre}
use Rattle.source_model.specs.Circuits.{AxesOfLength}
use Rattle.source_model.specs.inside.Kept.{Keeps, Carries, product_axis}
use Rattle.source_model.specs.Outcomes.{raw_of, x_of, bit_of}
use Rattle.source_model.specs.SourceRun.{Progress, fresh, turned, after, flips, axis_in, axis_of, is_product, next_of, rest_of, axes_from, axes, progress_after}

-- ---- turns of one length
one_fits : (n : ℕ) (f : Progress) (t : Turn) → OfLength n t.axis → TurnsOfLength n f.turns → TurnsOfLength n (f.turns ++ t ∷ [])
one_fits n f t e h = turns_joined n f.turns (t ∷ []) h (about_long n t.axis (t ∷ []) e (refl, tt))

corrections_fit : (n : ℕ) (executed axis : Signed) (raw x : Bool) → OfLength n axis → TurnsOfLength n (corrections executed axis raw x)
corrections_fit n executed axis raw x e =
    let us = corrections executed axis raw x in
    about_long n axis us e (alike_about axis axis us us (corrections_alike executed axis axis raw x)).1

settled_fits : (n : ℕ) (f : Progress) (axis : Signed) (b : Bool) → OfLength n axis → TurnsOfLength n f.turns → TurnsOfLength n (if b then turned (turn axis half ∷ []) f else f).turns
settled_fits n f axis true e h = one_fits n f (turn axis half) e h
settled_fits n f axis false e h = h

after_fits : (n : ℕ) (f : Progress) (i : Item) (g : Given) → OfLength n (axis_of i) → TurnsOfLength n f.turns → TurnsOfLength n (after f i g).turns
after_fits n f (item.Turn axis Eighth) g e h =
    turns_joined n f.turns (corrections (axis_in f axis) axis (raw_of g) (x_of g)) h (corrections_fit n (axis_in f axis) axis (raw_of g) (x_of g) e)
after_fits n f (item.Turn axis Quarter) g e h = one_fits n f (turn axis quarter) e h
after_fits n f (item.Turn axis Half) g e h = one_fits n f (turn axis half) e h
after_fits n f (item.Measure axis bit) g e h = h
after_fits n f (item.If axis first size value) g e h = settled_fits n f axis (flips f first size value) e h

-- ---- one item
-- a Clifford has no outcome
idle_outcome : (f : Progress) (i : Item) (g : Given) → is_product i ≡ false → after f i Settled ≡ after f i g
idle_outcome f (item.Turn axis Eighth) g e = cc
idle_outcome f (item.Turn axis Quarter) g e = refl
idle_outcome f (item.Turn axis Half) g e = refl
idle_outcome f (item.Measure axis bit) g e = cc
idle_outcome f (item.If axis first size value) g e = cc

is_some_product : (b : Bool) (x a : Signed) → Some a ≡ (if b then Some x else None) → (b ≡ true) × (a ≡ x)
is_some_product true x a e = (refl, cc)
is_some_product false x a e = cc

is_no_product : (b : Bool) (x : Signed) → None ≡ (if b then Some x else None) → b ≡ false
is_no_product true x e = cc
is_no_product false x e = refl

rest_of_drop : (k : ℕ) (gs : List Given) → rest_of (drop k gs) ≡ drop (suc k) gs
rest_of_drop zero [] = refl
rest_of_drop zero (g ∷ gs) = refl
rest_of_drop (suc k) [] = refl
rest_of_drop (suc k) (g ∷ gs) = rest_of_drop k gs

-- ---- behind the first k items, of which `next` are products
pub record Reached (n : ℕ) (items : List Item) (gs : List Given) (found : List Signed) (turns : List Turn) (bits : List Bool) (k next : ℕ) : Type 0 where
  pub f : Progress
  pub keeps : Keeps f turns bits
  pub fits : TurnsOfLength n f.turns
  pub axes_left : axes items gs ≡ found ++ axes_from f (drop k items) (drop next gs)
  pub end_left : progress_after fresh items gs ≡ progress_after f (drop k items) (drop next gs)

pub reached_start : (n : ℕ) (items : List Item) (gs : List Given) (found : List Signed) (turns : List Turn) (bits : List Bool) → found ≡ [] → Keeps fresh turns bits → Reached n items gs found turns bits 0 0
reached_start n items gs found turns bits e k =
    record { f = fresh; keeps = k; fits = All-nil (λ t. OfLength n t.axis); axes_left = ap (λ as'. as' ++ axes items gs) (sym e); end_left = refl }

items_from : (items : List Item) (k : ℕ) (i : Item) → k < length items → i ≡ get_or items k i → drop k items ≡ i ∷ drop (k + 1) items
items_from items k i l e = rw add-one (drop-cons items k i l ∙ ap (λ j. j ∷ drop (suc k) items) (sym e))

axes_product : (f : Progress) (i : Item) (is : List Item) (gs : List Given) → is_product i ≡ true → axes_from f (i ∷ is) gs ≡ axis_in f (axis_of i) ∷ axes_from (after f i (next_of gs)) is (rest_of gs)
axes_product f i is gs e = rw e refl

end_product : (f : Progress) (i : Item) (is : List Item) (gs : List Given) → is_product i ≡ true → progress_after f (i ∷ is) gs ≡ progress_after (after f i (next_of gs)) is (rest_of gs)
end_product f i is gs e = rw e refl

axes_clifford : (f : Progress) (i : Item) (is : List Item) (gs : List Given) → is_product i ≡ false → axes_from f (i ∷ is) gs ≡ axes_from (after f i Settled) is gs
axes_clifford f i is gs e = rw e refl

end_clifford : (f : Progress) (i : Item) (is : List Item) (gs : List Given) → is_product i ≡ false → progress_after f (i ∷ is) gs ≡ progress_after (after f i Settled) is gs
end_clifford f i is gs e = rw e refl

pub length_of_axis : (n : ℕ) (items : List Item) (k : ℕ) (i : Item) → AxesOfLength n items → k < length items → i ≡ get_or items k i → OfLength n (axis_of i)
length_of_axis n items k i h l e = rw e (All-get_or (λ j. OfLength n (axis_of j)) items k i l h)

pub reached_product : (n : ℕ) (items : List Item) (gs : List Given) (found : List Signed) (turns : List Turn) (bits : List Bool) (k next : ℕ) (i : Item) (a : Signed) (turns' : List Turn) (bits' : List Bool) → AxesOfLength n items → k < length items → i ≡ get_or items k i → Some a ≡ product_axis turns i → Carries i (next_of (drop next gs)) turns bits turns' bits' → Reached n items gs found turns bits k next →
    Reached n items gs (found ++ a ∷ []) turns' bits' (k + 1) (next + 1)
reached_product n items gs found turns bits k next i a turns' bits' h l e p carries r =
    let g = next_of (drop next gs) in
    let g' = after r.f i g in
    let is = drop (k + 1) items in
    let product = is_some_product (is_product i) (pull turns (axis_of i)) a p in
    let here : a ≡ axis_in r.f (axis_of i) = product.1 ∙ ap (λ ts. pull ts (axis_of i)) r.keeps.same_turns in
    let left : rest_of (drop next gs) ≡ drop (next + 1) gs = rw add-one (rest_of_drop next gs) in
    let step : axes_from r.f (drop k items) (drop next gs) ≡ a ∷ axes_from g' is (drop (next + 1) gs) =
    ap (λ js. axes_from r.f js (drop next gs)) (items_from items k i l e)
    ∙ axes_product r.f i is (drop next gs) product.0
    ∙ ap₂ (λ b hs. b ∷ axes_from g' is hs) (sym here) left in
    let end : progress_after r.f (drop k items) (drop next gs) ≡ progress_after g' is (drop (next + 1) gs) =
    ap (λ js. progress_after r.f js (drop next gs)) (items_from items k i l e)
    ∙ end_product r.f i is (drop next gs) product.0
    ∙ ap (λ hs. progress_after g' is hs) left in
    record {
      f = g';
      keeps = carries r.f r.keeps;
      fits = after_fits n r.f i g (length_of_axis n items k i h l e) r.fits;
      axes_left = r.axes_left ∙ ap (λ as'. found ++ as') step ∙ sym (append_assoc found (a ∷ []) (axes_from g' is (drop (next + 1) gs)));
      end_left = r.end_left ∙ end;
    }

pub reached_clifford : (n : ℕ) (items : List Item) (gs : List Given) (found : List Signed) (turns : List Turn) (bits : List Bool) (k next : ℕ) (i : Item) (turns' : List Turn) (bits' : List Bool) → AxesOfLength n items → k < length items → i ≡ get_or items k i → None ≡ product_axis turns i → Carries i (next_of (drop next gs)) turns bits turns' bits' → Reached n items gs found turns bits k next →
    Reached n items gs found turns' bits' (k + 1) next
reached_clifford n items gs found turns bits k next i turns' bits' h l e p carries r =
    let g = next_of (drop next gs) in
    let g' = after r.f i g in
    let is = drop (k + 1) items in
    let idle = is_no_product (is_product i) (pull turns (axis_of i)) p in
    let step : axes_from r.f (drop k items) (drop next gs) ≡ axes_from g' is (drop next gs) =
    ap (λ js. axes_from r.f js (drop next gs)) (items_from items k i l e)
    ∙ axes_clifford r.f i is (drop next gs) idle
    ∙ ap (λ f. axes_from f is (drop next gs)) (idle_outcome r.f i g idle) in
    let end : progress_after r.f (drop k items) (drop next gs) ≡ progress_after g' is (drop next gs) =
    ap (λ js. progress_after r.f js (drop next gs)) (items_from items k i l e)
    ∙ end_clifford r.f i is (drop next gs) idle
    ∙ ap (λ f. progress_after f is (drop next gs)) (idle_outcome r.f i g idle) in
    record {
      f = g';
      keeps = carries r.f r.keeps;
      fits = after_fits n r.f i g (length_of_axis n items k i h l e) r.fits;
      axes_left = r.axes_left ∙ ap (λ as'. found ++ as') step;
      end_left = r.end_left ∙ end;
    }

-- ---- behind all items
pub reached_axes : (n : ℕ) (items : List Item) (gs : List Given) (found : List Signed) (turns : List Turn) (bits : List Bool) (k next : ℕ) → length items ≤ k → Reached n items gs found turns bits k next → found ≡ axes items gs
reached_axes n items gs found turns bits k next l r =
    sym (append-nil found) ∙ ap (λ js. found ++ axes_from r.f js (drop next gs)) (sym (drop_all k items l)) ∙ sym r.axes_left

pub reached_bits : (n : ℕ) (items : List Item) (gs : List Given) (found : List Signed) (turns : List Turn) (bits : List Bool) (k next : ℕ) → length items ≤ k → Reached n items gs found turns bits k next → BitsAre bits items gs
reached_bits n items gs found turns bits k next l r b =
    let end : r.f ≡ progress_after fresh items gs = ap (λ js. progress_after r.f js (drop next gs)) (sym (drop_all k items l)) ∙ sym r.end_left in
    r.keeps.same_bits b ∙ ap (λ f. bit_of f.writes b) end
