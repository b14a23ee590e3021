-- Static products of different programs commute.
use Rattle.std.proofs.Common.{◌≡◌, ◌≢◌, ℕ, zero, suc, ◌+◌, ◌<◌, ◌≤◌, ◌⊎◌, inl, inr, Bool, true, false, ◌&&◌, not, nat_le, nat_lt, List, [], ◌∷◌, ◌++◌, Some, take, sum_by, slice_get, refl, ap, ◌∙◌, arith}
use Rattle.std.specs.Prelude.{All, Contains}
use Rattle.std.specs.List.{AllByRecursion as ByRecursion}
use Rattle.std.proofs.lemmas.Bool.Decides.{nat_tests}
use Rattle.std.proofs.lemmas.List.Elements.{All-nil, All-head, All-tail, All-push, All-contains, All-from_recursion}
use Rattle.std.proofs.lemmas.List.Sums.{sum_by-cons}
use Rattle.std.proofs.lemmas.Option.{same_Some}
use Rattle.pauli_product.specs.Signed.{Signed, OfLength, commute}
use Rattle.pauli_product.specs.Pulls.{Turn, turn, quarter, half, TurnsOfLength}
use Rattle.pauli_product.proofs.Algebra.{commute_swap}
use Rattle.pauli_product.proofs.Turns.{length_pull}
use Rattle.source_model.specs.declared.Angle.TheVariants.{Eighth, Quarter, Half}
use Rattle.source_model.specs.declared.Item.{Item}
use Rattle.source_model.specs.declared.Item.TheVariants as item
use Rattle.source_model.specs.declared.Kind.{Kind}
use Rattle.source_model.specs.declared.Kind.TheVariants as kind
use Rattle.source_model.specs.declared.Static.{Static}
use Rattle.source_model.specs.SourceRun.{axis_of}
use Rattle.source_model.specs.Circuits.{AxesOfLength, BitsBelow, bits_in}
use Rattle.source_model.specs.Statics.{statics_from, statics, reads_from, commuting}
use Rattle.source_model.specs.declared.Circuit.{Circuit}
use Rattle.side_by_side.specs.declared.place.Place.{Place}
use Rattle.side_by_side.specs.Places.{pad, bit_in, range_in, kind_in, static_in}
use Rattle.side_by_side.specs.inside.Beside.{ReadsOneKind, Fits}
use Rattle.side_by_side.specs.Joined.{place_of}
use Rattle.side_by_side.proofs.Padding.{commute_clear}
use Rattle.side_by_side.proofs.Together.{clear_past}
use Rattle.side_by_side.proofs.Shares.{all_at}

-- ---- what a static product keeps to
abbrev KindFits : ℕ → ℕ → Kind → Type 0
KindFits bits hidden kind.Rotation = Unit {0}
KindFits bits hidden (kind.Measure bit) = bit < bits + hidden
KindFits bits hidden (kind.Settle first size value) = (first + size ≤ bits + hidden) × ((first + size ≤ bits) ⊎ (bits ≤ first))

abbrev StaticFits : Circuit → Static → Type 0
StaticFits p s = OfLength p.qubits s.axis × KindFits (bits_in p.registers) p.hidden s.kind

statics_fit_from : (p : Circuit) (turns : List Turn) (items : List Item) → TurnsOfLength p.qubits turns → AxesOfLength p.qubits items → All (BitsBelow (bits_in p.registers + p.hidden)) items → All (ReadsOneKind (bits_in p.registers)) items → ByRecursion (StaticFits p) (statics_from turns items)
statics_fit_from p turns [] k h bs rs = tt
statics_fit_from p turns (i ∷ is) k h bs rs =
    let more = All-tail (λ i. OfLength p.qubits (axis_of i)) i is h in
    let bs' = All-tail (BitsBelow (bits_in p.registers + p.hidden)) i is bs in
    let rs' = All-tail (ReadsOneKind (bits_in p.registers)) i is rs in
    step i (All-head (λ i. OfLength p.qubits (axis_of i)) i is h) (All-head (BitsBelow (bits_in p.registers + p.hidden)) i is bs) (All-head (ReadsOneKind (bits_in p.registers)) i is rs)
    (λ later k'. statics_fit_from p later is k' more bs' rs')
  where
    step : (i : Item) → OfLength p.qubits (axis_of i) → BitsBelow (bits_in p.registers + p.hidden) i → ReadsOneKind (bits_in p.registers) i → ((later : List Turn) → TurnsOfLength p.qubits later → ByRecursion (StaticFits p) (statics_from later is)) → ByRecursion (StaticFits p) (statics_from turns (i ∷ is))
    step (item.Turn axis Eighth) e b r rest = ((length_pull p.qubits turns axis k e, tt), rest turns k)
    step (item.Turn axis Quarter) e b r rest = rest (turns ++ turn axis quarter ∷ []) (All-push (λ t. OfLength p.qubits t.axis) turns (turn axis quarter) k e)
    step (item.Turn axis Half) e b r rest = rest (turns ++ turn axis half ∷ []) (All-push (λ t. OfLength p.qubits t.axis) turns (turn axis half) k e)
    step (item.Measure axis bit) e b r rest = ((length_pull p.qubits turns axis k e, b), rest turns k)
    step (item.If axis first size value) e b r rest = ((length_pull p.qubits turns axis k e, (b, r)), rest turns k)

static_fits : (p : Circuit) (s : Static) → Fits p → Contains (statics p.items) s → StaticFits p s
static_fits p s f c =
    All-contains (StaticFits p) (statics p.items) s
    (All-from_recursion (StaticFits p) (statics p.items) (statics_fit_from p [] p.items (All-nil (λ t. OfLength p.qubits t.axis)) f.axes_fit f.bits_fit f.reads_fit)) c

-- ---- places in order
record Ahead (p : Circuit) (a b : Place) : Type 0 where
  own_bits : a.bits ≡ bits_in p.registers
  qubits : a.before + p.qubits ≤ b.before
  registers : a.bit + a.bits ≤ b.bit
  below : b.bit + b.bits ≤ a.hidden
  hidden : a.hidden + p.hidden ≤ b.hidden

sum_before : (f : Circuit → ℕ) (ps : List Circuit) (i j : ℕ) (p : Circuit) → slice_get ps i ≡ Some p → i < j → sum_by f (take i ps) + f p ≤ sum_by f (take j ps)
sum_before f [] i j p e l = cc
sum_before f (r ∷ ps) i zero p e l = absurd (omega arith)
sum_before f (r ∷ ps) zero (suc j) p e l =
    let same : f r ≡ f p = ap f (same_Some r p e) in
    omega (arith, same, sum_by-cons f r (take j ps))
sum_before f (r ∷ ps) (suc i) (suc j) p e l = omega (arith, sum_by-cons f r (take i ps), sum_by-cons f r (take j ps), sum_before f ps i j p e (omega arith))

sum_within : (f : Circuit → ℕ) (ps : List Circuit) (i : ℕ) (p : Circuit) → slice_get ps i ≡ Some p → sum_by f (take i ps) + f p ≤ sum_by f ps
sum_within f [] i p e = cc
sum_within f (r ∷ ps) zero p e =
    let same : f r ≡ f p = ap f (same_Some r p e) in
    omega (arith, same, sum_by-cons f r ps)
sum_within f (r ∷ ps) (suc i) p e = omega (arith, sum_by-cons f r (take i ps), sum_by-cons f r ps, sum_within f ps i p e)

ahead : (ps : List Circuit) (i j : ℕ) (p r : Circuit) → slice_get ps i ≡ Some p → slice_get ps j ≡ Some r → i < j → Ahead p (place_of ps i p) (place_of ps j r)
ahead ps i j p r e f l = record {
  own_bits = refl;
  qubits = sum_before (λ p. p.qubits) ps i j p e l;
  registers = sum_before (λ p. bits_in p.registers) ps i j p e l;
  below = omega (arith, sum_within (λ (p : Circuit). bits_in p.registers) ps j r f);
  hidden = omega (arith, sum_before (λ (p : Circuit). p.hidden) ps i j p e l);
}

-- ---- two products
axes_commute : (p : Circuit) (a b : Place) (x y : Signed) → Ahead p a b → OfLength p.qubits x → commute (pad a x) (pad b y) ≡ true
axes_commute p a b x y h e = let q = h.qubits in commute_clear b (pad a x) y (λ k u v. clear_past a.before a.after x.letters k (omega arith))

forward : (a b : Place) (first size bit : ℕ) → a.bit + a.bits ≤ b.bit → b.bit + b.bits ≤ a.hidden → (m : ℕ) → a.hidden + m ≤ b.hidden → first + size ≤ a.bits + m → (first + size ≤ a.bits) ⊎ (a.bits ≤ first) →
    (nat_le (range_in a first size) (bit_in b bit) && nat_lt (bit_in b bit) (range_in a first size + size)) ≡ false
forward a b first size bit h k m l n (inl z) = grind (arith, nat_tests)
forward a b first size bit h k m l n (inr z) = grind (arith, nat_tests)

backward : (a b : Place) (first size bit : ℕ) → a.bit + a.bits ≤ b.bit → b.bit + b.bits ≤ a.hidden → (m : ℕ) → a.hidden + m ≤ b.hidden → bit < a.bits + m → (first + size ≤ b.bits) ⊎ (b.bits ≤ first) →
    (nat_le (range_in b first size) (bit_in a bit) && nat_lt (bit_in a bit) (range_in b first size + size)) ≡ false
backward a b first size bit h k m l n (inl z) = grind (arith, nat_tests)
backward a b first size bit h k m l n (inr z) = grind (arith, nat_tests)

reads_forward : (p : Circuit) (a b : Place) (k k' : Kind) → Ahead p a b → KindFits (bits_in p.registers) p.hidden k → reads_from (kind_in a k) (kind_in b k') ≡ false
reads_forward p a b k kind.Rotation h f = refl
reads_forward p a b k (kind.Settle first size value) h f = refl
reads_forward p a b kind.Rotation (kind.Measure bit) h f = refl
reads_forward p a b (kind.Measure c) (kind.Measure bit) h f = refl
reads_forward p a b (kind.Settle first size value) (kind.Measure bit) h f =
    let same = h.own_bits in
    let within : first + size ≤ a.bits + p.hidden = omega (arith, same, f.0) in
    let one : (first + size ≤ a.bits) ⊎ (a.bits ≤ first) = rw same f.1 in
    forward a b first size bit h.registers h.below p.hidden h.hidden within one

reads_backward : (p r : Circuit) (a b : Place) (k k' : Kind) → Ahead p a b → b.bits ≡ bits_in r.registers → KindFits (bits_in p.registers) p.hidden k → KindFits (bits_in r.registers) r.hidden k' → reads_from (kind_in b k') (kind_in a k) ≡ false
reads_backward p r a b kind.Rotation k' h e f g = refl
reads_backward p r a b (kind.Settle first size value) k' h e f g = refl
reads_backward p r a b (kind.Measure bit) kind.Rotation h e f g = refl
reads_backward p r a b (kind.Measure bit) (kind.Measure c) h e f g = refl
reads_backward p r a b (kind.Measure bit) (kind.Settle first size value) h e f g =
    let same = h.own_bits in
    let within : bit < a.bits + p.hidden = omega (arith, same, f) in
    let one : (first + size ≤ b.bits) ⊎ (b.bits ≤ first) = rw e g.1 in
    backward a b first size bit h.registers h.below p.hidden h.hidden within one

three : (x y z : Bool) → x ≡ true → y ≡ false → z ≡ false → (x && not y && not z) ≡ true
three x y z e f g = cc

in_order : (ps : List Circuit) (i j : ℕ) (p r : Circuit) (s t : Static) → All Fits ps → i < j → slice_get ps i ≡ Some p → slice_get ps j ≡ Some r → Contains (statics p.items) s → Contains (statics r.items) t →
    (commute (pad (place_of ps i p) s.axis) (pad (place_of ps j r) t.axis) ≡ true)
    × (reads_from (kind_in (place_of ps i p) s.kind) (kind_in (place_of ps j r) t.kind) ≡ false)
    × (reads_from (kind_in (place_of ps j r) t.kind) (kind_in (place_of ps i p) s.kind) ≡ false)
in_order ps i j p r s t fit l e f c d =
    let a = place_of ps i p in
    let b = place_of ps j r in
    let h = ahead ps i j p r e f l in
    let x = static_fits p s (all_at Fits ps i p fit e) c in
    let y = static_fits r t (all_at Fits ps j r fit f) d in
    (axes_commute p a b s.axis t.axis h x.0, reads_forward p a b s.kind t.kind h x.1, reads_backward p r a b s.kind t.kind h refl x.1 y.1)

apart : (i j : ℕ) → i ≢ j → (i < j) ⊎ (j < i)
apart i j n = cases (nat_lt i j) refl
  where
    cases : (b : Bool) → nat_lt i j ≡ b → (i < j) ⊎ (j < i)
    cases true e = let l : i < j = grind (arith, nat_tests) in inl l
    cases false e = let l : j < i = grind (arith, nat_tests, n) in inr l

pub programs_commute : (ps : List Circuit) (i j : ℕ) (p r : Circuit) (s t : Static) → All Fits ps → i ≢ j → slice_get ps i ≡ Some p → slice_get ps j ≡ Some r → Contains (statics p.items) s → Contains (statics r.items) t →
    commuting (static_in (place_of ps i p) s) (static_in (place_of ps j r) t) ≡ true
programs_commute ps i j p r s t fit n e f c d = elim (apart i j n) [
  | inl l ↦ let h = in_order ps i j p r s t fit l e f c d in three _ _ _ h.0 h.1 h.2
  | inr l ↦ let h = in_order ps j i r p t s fit l f e d c in three _ _ _ (commute_swap (pad (place_of ps i p) s.axis) (pad (place_of ps j r) t.axis) ∙ h.0) h.2 h.1
]
