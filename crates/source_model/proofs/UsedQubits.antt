-- Rotations and measurements are carried out about axes that act on used qubits alone.
use Rattle.std.proofs.Common.{◌≡◌, ℕ, zero, suc, Bool, true, false, ◌&&◌, ◌||◌, if◌then◌else◌, List, [], ◌∷◌, ◌++◌, Some, slice_get, slice_index_or, IsTrue, refl, ap, sym, ◌∙◌, subst}
use Rattle.pauli_product.specs.declared.Letter.{Letter}
use Rattle.pauli_product.specs.declared.Letter.TheVariants.{I, X, Y, Z}
use Rattle.pauli_product.specs.Letters.{letter_product}
use Rattle.pauli_product.specs.Signed.{Signed, commute, letters_product}
use Rattle.pauli_product.specs.Pulls.{Angle, Turn, turn, quarter, half, conj, moved, pull}
use Rattle.pauli_product.specs.Corrections.{effective, turn_if, corrections}
use Rattle.pauli_product.proofs.Laws.{conj_idle, conj_moves}
use Rattle.source_model.specs.declared.Angle.TheVariants.{Eighth}
use Rattle.source_model.specs.declared.Item.{Item}
use Rattle.source_model.specs.declared.Item.TheVariants as item
use Rattle.source_model.specs.declared.Given.{Given}
use Rattle.source_model.specs.declared.Kind.{Kind}
use Rattle.source_model.specs.declared.Kind.TheVariants as kind
use Rattle.source_model.specs.declared.Static.{Static}
use Rattle.source_model.specs.Outcomes.{raw_of, x_of}
use Rattle.source_model.specs.SourceRun.{Progress, fresh, after, axis_in, flips, turned, next_of, rest_of, axes_from, axes}
use Rattle.source_model.specs.Statics.{statics, static_items}
use Rattle.source_model.specs.Circuits.{AxesOfLength}
use Rattle.source_model.specs.Used.{acts, acts_at, takes_region, is_used, UsedBy}
use Rattle.source_model.proofs.EqualRuns.{statics_run_alike}

-- ---- turns that leave the letter at a qubit
letter_stays : (a b : Letter) → acts a ≡ false → acts (letter_product a b) ≡ acts b
letter_stays I b e = refl
letter_stays X b e = cc
letter_stays Y b e = cc
letter_stays Z b e = cc

product_acts : (as' bs : List Letter) (q : ℕ) → acts (slice_index_or as' q I) ≡ false → acts (slice_index_or bs q I) ≡ false → acts (slice_index_or (letters_product as' bs) q I) ≡ false
product_acts [] bs q e f = refl
product_acts (a ∷ as') [] q e f = refl
product_acts (a ∷ as') (b ∷ bs) zero e f = letter_stays a b e ∙ f
product_acts (a ∷ as') (b ∷ bs) (suc q) e f = product_acts as' bs q e f

-- a half, or about an axis that has I at the qubit
abbrev Leaves : ℕ → Angle → Signed → Type 0
Leaves q quarter axis = acts_at axis q ≡ false
Leaves q half axis = Unit {0}

moved_acts : (q : ℕ) (a : Angle) (axis p : Signed) → Leaves q a axis → acts_at p q ≡ false → acts_at (moved axis a p) q ≡ false
moved_acts q quarter axis p h e = product_acts axis.letters p.letters q h e
moved_acts q half axis p h e = e

conj_acts : (q : ℕ) (a : Angle) (axis p : Signed) → Leaves q a axis → acts_at p q ≡ false → acts_at (conj axis a p) q ≡ false
conj_acts q a axis p h e = cases (commute axis p) refl
  where
    cases : (b : Bool) → commute axis p ≡ b → acts_at (conj axis a p) q ≡ false
    cases true c = rw (conj_idle axis a p c) e
    cases false c = rw (conj_moves axis a p c) (moved_acts q a axis p h e)

abbrev LeaveAll : ℕ → List Turn → Type 0
LeaveAll q [] = Unit {0}
LeaveAll q (t ∷ ts) = Leaves q t.angle t.axis × LeaveAll q ts

leave_append : (q : ℕ) (ts us : List Turn) → LeaveAll q ts → LeaveAll q us → LeaveAll q (ts ++ us)
leave_append q [] us h k = k
leave_append q (t ∷ ts) us h k = (h.0, leave_append q ts us h.1 k)

pull_acts : (q : ℕ) (ts : List Turn) (p : Signed) → LeaveAll q ts → acts_at p q ≡ false → acts_at (pull ts p) q ≡ false
pull_acts q [] p h e = e
pull_acts q (t ∷ ts) p h e = conj_acts q t.angle t.axis (pull ts p) h.0 (pull_acts q ts p h.1 e)

turn_if_leaves : (q : ℕ) (b : Bool) (axis : Signed) (a : Angle) → Leaves q a axis → LeaveAll q (turn_if b axis a)
turn_if_leaves q true axis a h = (h, tt)
turn_if_leaves q false axis a h = tt

-- what products leave
corrections_leave : (q : ℕ) (executed axis : Signed) (raw x : Bool) → acts_at axis q ≡ false → LeaveAll q (corrections executed axis raw x)
corrections_leave q executed axis raw x h =
    leave_append q (turn_if (effective executed raw) axis quarter) (turn_if x axis half) (turn_if_leaves q (effective executed raw) axis quarter h) (turn_if_leaves q x axis half tt)

settled_leaves : (q : ℕ) (b : Bool) (f : Progress) (axis : Signed) → LeaveAll q f.turns → LeaveAll q (if b then turned (turn axis half ∷ []) f else f).turns
settled_leaves q true f axis h = leave_append q f.turns (turn axis half ∷ []) h (tt, tt)
settled_leaves q false f axis h = h

-- ---- along the static products
-- from any progress whose turns leave the qubit, no rotation or measurement acts on it
abbrev Untouched : ℕ → List Static → Type 0
Untouched q products = (f : Progress) (gs : List Given) (k : ℕ) (s : Static) (axis : Signed) → LeaveAll q f.turns → slice_get products k ≡ Some s → takes_region s.kind ≡ true → slice_get (axes_from f (static_items products) gs) k ≡ Some axis → acts_at axis q ≡ false

untouched_behind : (q : ℕ) (a : Signed) (kd : Kind) (ss : List Static) → (takes_region kd && acts_at a q) ≡ false → Untouched q ss → Untouched q (record { axis = a; kind = kd } ∷ ss)
untouched_behind q a kind.Rotation ss h rest f gs zero s axis l i e r =
    let same : axis_in f a ≡ axis = cc in
    subst (λ (p : Signed). acts_at p q ≡ false) same (pull_acts q f.turns a l h)
untouched_behind q a kind.Rotation ss h rest f gs (suc k) s axis l i e r =
    let o = next_of gs in
    rest (after f (item.Turn a Eighth) o) (rest_of gs) k s axis
    (leave_append q f.turns (corrections (axis_in f a) a (raw_of o) (x_of o)) l (corrections_leave q (axis_in f a) a (raw_of o) (x_of o) h)) i e r
untouched_behind q a (kind.Measure bit) ss h rest f gs zero s axis l i e r =
    let same : axis_in f a ≡ axis = cc in
    subst (λ (p : Signed). acts_at p q ≡ false) same (pull_acts q f.turns a l h)
untouched_behind q a (kind.Measure bit) ss h rest f gs (suc k) s axis l i e r =
    rest (after f (item.Measure a bit) (next_of gs)) (rest_of gs) k s axis l i e r
untouched_behind q a (kind.Settle first size value) ss h rest f gs zero s axis l i e r =
    let same : kind.Settle first size value ≡ s.kind = cc in
    let no : takes_region (kind.Settle first size value) ≡ true = ap takes_region same ∙ e in
    cc
untouched_behind q a (kind.Settle first size value) ss h rest f gs (suc k) s axis l i e r =
    rest (after f (item.If a first size value) (next_of gs)) (rest_of gs) k s axis (settled_leaves q (flips f first size value) f a l) i e r

neither : (x y : Bool) → (x || y) ≡ false → (x ≡ false) × (y ≡ false)
neither true y e = cc
neither false y e = (refl, e)

untouched : (q : ℕ) (products : List Static) → is_used products q ≡ false → Untouched q products
untouched q [] h = λ (f : Progress) (gs : List Given) (k : ℕ) (s : Static) (axis : Signed) l i e r. cc
untouched q (s ∷ ss) h =
    let parts = neither (takes_region s.kind && acts_at s.axis q) (is_used ss q) h in
    untouched_behind q s.axis s.kind ss parts.0 (untouched q ss parts.1)

pub acts_on_used : (n : ℕ) (items : List Item) (gs : List Given) (k : ℕ) (s : Static) (axis : Signed) (q : ℕ) → AxesOfLength n items → slice_get (statics items) k ≡ Some s → takes_region s.kind ≡ true → slice_get (axes items gs) k ≡ Some axis → acts_at axis q ≡ true →
    UsedBy (statics items) q
acts_on_used n items gs k s axis q h i e r acting = cases (is_used (statics items) q) refl
  where
    cases : (b : Bool) → is_used (statics items) q ≡ b → IsTrue b
    cases true u = refl
    cases false u =
        let r' : slice_get (axes (static_items (statics items)) gs) k ≡ Some axis = ap (λ as'. slice_get as' k) (sym (statics_run_alike n items gs h)) ∙ r in
        let idle : acts_at axis q ≡ false = untouched q (statics items) u fresh gs k s axis tt i e r' in
        cc
