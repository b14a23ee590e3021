-- A program after others, on qubits and bits of its own, runs as it does alone.
use Rattle.std.proofs.Common.{◌≡◌, ℕ, zero, suc, ◌+◌, ◌-◌, ◌*◌, ◌<◌, ◌≤◌, ◌==◌, ◌⊎◌, inl, inr, Bool, true, false, if◌then◌else◌, List, [], ◌∷◌, ◌++◌, map, refl, ap, ap₂, sym, ◌∙◌, arith, append_assoc}
use Rattle.std.proofs.lemmas.Bool.Decides.{nat_tests}
use Rattle.std.proofs.lemmas.List.{map-append}
use Rattle.std.proofs.lemmas.List.Elements.{All-head, All-tail}
use Rattle.std.specs.Prelude.{All}
use Rattle.pauli_product.specs.Signed.{Signed, OfLength}
use Rattle.pauli_product.specs.Bits.{number_of}
use Rattle.pauli_product.specs.Pulls.{Angle, Turn, turn, quarter, half, TurnsOfLength}
use Rattle.pauli_product.specs.Corrections.{effective, turn_if, corrections}
use Rattle.pauli_product.proofs.Turns.{turns_append, turns_about, same_angles_about, same_corrections}
use Rattle.source_model.specs.declared.Angle.TheVariants.{Eighth, Quarter, Half}
use Rattle.source_model.specs.declared.Item.{Item}
use Rattle.source_model.specs.declared.Item.TheVariants as item
use Rattle.source_model.specs.declared.Given.{Given}
use Rattle.source_model.specs.declared.Given.TheVariants.{Settled}
use Rattle.source_model.specs.Outcomes.{raw_of, x_of, bit_of}
use Rattle.source_model.specs.SourceRun.{Progress, turned, axis_in, flips, is_product, axis_of, after, next_of, rest_of, axes_from, progress_after}
use Rattle.source_model.specs.Circuits.{AxesOfLength}
use Rattle.side_by_side.specs.declared.place.Place.{Place}
use Rattle.side_by_side.specs.Places.{pad, bit_in, range_in, item_in, items_in}
use Rattle.side_by_side.specs.inside.Beside.{pads, writes_in, beside, Leaves, ReadsOneKind}
use Rattle.side_by_side.proofs.Padding.{pull_beside}

-- ---- bits
pub bit_low : (s : Place) (b : ℕ) → b < s.bits → bit_in s b ≡ s.bit + b
bit_low s b h = grind (arith, nat_tests)

pub bit_high : (s : Place) (b : ℕ) → s.bits ≤ b → bit_in s b ≡ s.hidden + (b - s.bits)
bit_high s b h = grind (arith, nat_tests)

pub range_low : (s : Place) (first size : ℕ) → first + size ≤ s.bits → range_in s first size ≡ s.bit + first
range_low s first size h = grind (arith, nat_tests)

pub range_high : (s : Place) (first size : ℕ) → s.bits ≤ first → 0 < size → range_in s first size ≡ s.hidden + (first - s.bits)
range_high s first size h z = grind (arith, nat_tests)

same_bit : (s : Place) (b c : ℕ) → s.bit + s.bits ≤ s.hidden → (bit_in s b == bit_in s c) ≡ (b == c)
same_bit s b c h = grind (arith, nat_tests)

-- an If's bits run on
bits_run_on : (s : Place) (first size k : ℕ) → (first + size ≤ s.bits) ⊎ (s.bits ≤ first) → k < size → bit_in s (first + k) ≡ range_in s first size + k
bits_run_on s first size k (inl h) l = omega (arith, bit_low s (first + k) (omega arith), range_low s first size h)
bits_run_on s first size k (inr h) l = let z : 0 < size = omega arith in omega (arith, bit_high s (first + k) (omega arith), range_high s first size h z)

number_moved : (F G : ℕ → Bool) (to from size : ℕ) → ((i j k : ℕ) → i ≡ to + k → j ≡ from + k → k < size → F i ≡ G j) → number_of F to size ≡ number_of G from size
number_moved F G to from zero h = refl
number_moved F G to from (suc size) h =
    let weigh : Bool → ℕ → ℕ = λ b n. (if b then 1 else 0) + 2 * n in
    ap₂ weigh (h to from 0 (omega arith) (omega arith) (omega arith))
    (number_moved F G (to + 1) (from + 1) size (λ i j k e f l. h i j (suc k) (omega arith) (omega arith) (omega arith)))

-- ---- what came before leaves the program alone
pub record Room (n : ℕ) (s : Place) (f : Progress) : Type 0 where
  pub apart : s.bit + s.bits ≤ s.hidden
  pub leaves : Leaves s.before n f.turns
  pub unwritten : (b : ℕ) → bit_of f.writes (bit_in s b) ≡ false

bit_beside : (s : Place) (ws vs : List (ℕ × Bool)) (b : ℕ) → s.bit + s.bits ≤ s.hidden → bit_of vs (bit_in s b) ≡ false → bit_of (writes_in s ws ++ vs) (bit_in s b) ≡ bit_of ws b
bit_beside s [] vs b h e = e
bit_beside s (w ∷ ws) vs b h e = ap₂ (λ t rest. if t then w.1 else rest) (same_bit s w.0 b h) (bit_beside s ws vs b h e)

-- a bit of the program has the value that it has alone
pub bit_as_alone : (n : ℕ) (s : Place) (f g : Progress) (b : ℕ) → Room n s f → bit_of (beside s f g).writes (bit_in s b) ≡ bit_of g.writes b
bit_as_alone n s f g b r = bit_beside s g.writes f.writes b r.apart (r.unwritten b)

flips_as_alone : (n : ℕ) (s : Place) (f g : Progress) (first size value : ℕ) → Room n s f → (first + size ≤ s.bits) ⊎ (s.bits ≤ first) → flips (beside s f g) (range_in s first size) size value ≡ flips g first size value
flips_as_alone n s f g first size value r h =
    ap (λ m. m == value) (number_moved (bit_of (beside s f g).writes) (bit_of g.writes) (range_in s first size) first size (λ i j k e e' l.
    ap (bit_of (beside s f g).writes) (e ∙ sym (bits_run_on s first size k h l) ∙ ap (bit_in s) (sym e'))
    ∙ bit_as_alone n s f g j r))

-- the axis of a product of the program is its axis alone, padded
axis_as_alone : (n : ℕ) (s : Place) (f g : Progress) (a : Signed) → Room n s f → TurnsOfLength n g.turns → OfLength n a → axis_in (beside s f g) (pad s a) ≡ pad s (axis_in g a)
axis_as_alone n s f g a r h e = pull_beside n s f.turns g.turns a r.leaves h e

-- ---- one item
turned_beside : (s : Place) (f g : Progress) (us : List Turn) → turned (pads s us) (beside s f g) ≡ beside s f (turned us g)
turned_beside s f g us =
    let make : List Turn → Progress = λ ts. record { turns = ts; writes = writes_in s g.writes ++ f.writes } in
    ap make (append_assoc f.turns (pads s g.turns) (pads s us) ∙ ap (λ ts. f.turns ++ ts) (sym (map-append (λ (t : Turn). turn (pad s t.axis) t.angle) g.turns us)))

turn_if_pad : (s : Place) (b : Bool) (a : Signed) (g : Angle) → turn_if b (pad s a) g ≡ pads s (turn_if b a g)
turn_if_pad s true a g = refl
turn_if_pad s false a g = refl

corrections_pad : (s : Place) (e a : Signed) (raw x : Bool) → corrections (pad s e) (pad s a) raw x ≡ pads s (corrections e a raw x)
corrections_pad s e a raw x =
    ap₂ ◌++◌ (turn_if_pad s (effective e raw) a quarter) (turn_if_pad s x a half)
    ∙ sym (map-append (λ (t : Turn). turn (pad s t.axis) t.angle) (turn_if (effective e raw) a quarter) (turn_if x a half))

settled_beside : (s : Place) (f g : Progress) (a : Signed) (b : Bool) → (if b then turned (turn (pad s a) half ∷ []) (beside s f g) else beside s f g) ≡ beside s f (if b then turned (turn a half ∷ []) g else g)
settled_beside s f g a true = turned_beside s f g (turn a half ∷ [])
settled_beside s f g a false = refl

after_beside : (n : ℕ) (s : Place) (f g : Progress) (i : Item) (o : Given) → Room n s f → ReadsOneKind s.bits i → TurnsOfLength n g.turns → OfLength n (axis_of i) → after (beside s f g) (item_in s i) o ≡ beside s f (after g i o)
after_beside n s f g (item.Turn axis Eighth) o r k h e =
    ap (λ a. turned (corrections a (pad s axis) (raw_of o) (x_of o)) (beside s f g)) (axis_as_alone n s f g axis r h e)
    ∙ ap (λ us. turned us (beside s f g)) (corrections_pad s (axis_in g axis) axis (raw_of o) (x_of o))
    ∙ turned_beside s f g (corrections (axis_in g axis) axis (raw_of o) (x_of o))
after_beside n s f g (item.Turn axis Quarter) o r k h e = turned_beside s f g (turn axis quarter ∷ [])
after_beside n s f g (item.Turn axis Half) o r k h e = turned_beside s f g (turn axis half ∷ [])
after_beside n s f g (item.Measure axis bit) o r k h e =
    let make : Signed → Progress = λ a. record { turns = f.turns ++ pads s g.turns; writes = (bit_in s bit, effective a (raw_of o)) ∷ (writes_in s g.writes ++ f.writes) } in
    ap make (axis_as_alone n s f g axis r h e)
after_beside n s f g (item.If axis first size value) o r k h e =
    ap (λ b. if b then turned (turn (pad s axis) half ∷ []) (beside s f g) else beside s f g) (flips_as_alone n s f g first size value r k)
    ∙ settled_beside s f g axis (flips g first size value)

-- ---- lengths are kept
corrections_length : (n : ℕ) (e a : Signed) (raw x : Bool) → OfLength n a → TurnsOfLength n (corrections e a raw x)
corrections_length n e a raw x h = turns_about n a (corrections e a raw x) h (same_angles_about a a (corrections e a raw x) (corrections e a raw x) (same_corrections e a a raw x)).0

one_length : (n : ℕ) (a : Signed) (g : Angle) → OfLength n a → TurnsOfLength n (turn a g ∷ [])
one_length n a g h = turns_about n a (turn a g ∷ []) h (refl, tt)

settled_length : (n : ℕ) (g : Progress) (a : Signed) (b : Bool) → OfLength n a → TurnsOfLength n g.turns → TurnsOfLength n (if b then turned (turn a half ∷ []) g else g).turns
settled_length n g a true e h = turns_append n g.turns (turn a half ∷ []) h (one_length n a half e)
settled_length n g a false e h = h

pub after_length : (n : ℕ) (g : Progress) (i : Item) (o : Given) → OfLength n (axis_of i) → TurnsOfLength n g.turns → TurnsOfLength n (after g i o).turns
after_length n g (item.Turn axis Eighth) o e h = turns_append n g.turns (corrections (axis_in g axis) axis (raw_of o) (x_of o)) h (corrections_length n (axis_in g axis) axis (raw_of o) (x_of o) e)
after_length n g (item.Turn axis Quarter) o e h = turns_append n g.turns (turn axis quarter ∷ []) h (one_length n axis quarter e)
after_length n g (item.Turn axis Half) o e h = turns_append n g.turns (turn axis half ∷ []) h (one_length n axis half e)
after_length n g (item.Measure axis bit) o e h = h
after_length n g (item.If axis first size value) o e h = settled_length n g axis (flips g first size value) e h

-- ---- all items
pub product_in : (s : Place) (i : Item) → is_product (item_in s i) ≡ is_product i
product_in s (item.Turn axis Eighth) = refl
product_in s (item.Turn axis Quarter) = refl
product_in s (item.Turn axis Half) = refl
product_in s (item.Measure axis bit) = refl
product_in s (item.If axis first size value) = refl

pub axis_of_in : (s : Place) (i : Item) → axis_of (item_in s i) ≡ pad s (axis_of i)
axis_of_in s (item.Turn axis angle) = refl
axis_of_in s (item.Measure axis bit) = refl
axis_of_in s (item.If axis first size value) = refl

-- what the program's items ask of its place
pub record Own (n : ℕ) (s : Place) (items : List Item) : Type 0 where
  pub axes_fit : AxesOfLength n items
  pub reads_fit : All (ReadsOneKind s.bits) items

own_rest : (n : ℕ) (s : Place) (i : Item) (is : List Item) → Own n s (i ∷ is) → Own n s is
own_rest n s i is k = record {
  axes_fit = All-tail (λ i. OfLength n (axis_of i)) i is k.axes_fit;
  reads_fit = All-tail (ReadsOneKind s.bits) i is k.reads_fit;
}

pub record AsAlone (s : Place) (f g : Progress) (items : List Item) (gs : List Given) : Type 0 where
  pub axes : axes_from (beside s f g) (items_in s items) gs ≡ map (pad s) (axes_from g items gs)
  pub progress : progress_after (beside s f g) (items_in s items) gs ≡ beside s f (progress_after g items gs)

either_same : {A B : Type 0} (F : A → B) (b c : Bool) (x y : B) (u v : A) → b ≡ c → x ≡ F u → y ≡ F v → (if b then x else y) ≡ F (if c then u else v)
either_same F b true x y u v e p q = rw e p
either_same F b false x y u v e p q = rw e q

pub runs_as_alone : (n : ℕ) (s : Place) (f g : Progress) (items : List Item) (gs : List Given) → Room n s f → Own n s items → TurnsOfLength n g.turns → AsAlone s f g items gs
runs_as_alone n s f g [] gs r k h = record { axes = refl; progress = refl }
runs_as_alone n s f g (i ∷ is) gs r k h =
    let e : OfLength n (axis_of i) = All-head (λ i. OfLength n (axis_of i)) i is k.axes_fit in
    let one = All-head (ReadsOneKind s.bits) i is k.reads_fit in
    let more = own_rest n s i is k in
    let o = next_of gs in
    let took = runs_as_alone n s f (after g i o) is (rest_of gs) r more (after_length n g i o e h) in
    let none = runs_as_alone n s f (after g i Settled) is gs r more (after_length n g i Settled e h) in
    let here : axis_in (beside s f g) (axis_of (item_in s i)) ≡ pad s (axis_in g (axis_of i)) = ap (axis_in (beside s f g)) (axis_of_in s i) ∙ axis_as_alone n s f g (axis_of i) r h e in
    let with_outcome = after_beside n s f g i o r one h e in
    let without = after_beside n s f g i Settled r one h e in
    let axes_take = ap₂ ◌∷◌ here (ap (λ x. axes_from x (items_in s is) (rest_of gs)) with_outcome ∙ took.axes) in
    let axes_none = ap (λ x. axes_from x (items_in s is) gs) without ∙ none.axes in
    let progress_take = ap (λ x. progress_after x (items_in s is) (rest_of gs)) with_outcome ∙ took.progress in
    let progress_none = ap (λ x. progress_after x (items_in s is) gs) without ∙ none.progress in
    record {
      axes = either_same (map (pad s)) (is_product (item_in s i)) (is_product i) _ _ _ _ (product_in s i) axes_take axes_none;
      progress = either_same (beside s f) (is_product (item_in s i)) (is_product i) _ _ _ _ (product_in s i) progress_take progress_none;
    }
