-- Programs joined into one run as they do alone.
use Rattle.std.proofs.Common.{◌≡◌, ℕ, zero, suc, ◌+◌, ◌-◌, ◌<◌, ◌≤◌, ◌==◌, ◌⊎◌, inl, inr, Bool, true, false, if◌then◌else◌, nat_lt, List, [], ◌∷◌, ◌++◌, map, length, replicate, slice_index_or, refl, ap, ap₂, sym, ◌∙◌, arith, append-nil, subst}
use Rattle.std.proofs.lemmas.List.Sums.{sum_by-cons}
use Rattle.std.proofs.lemmas.Bool.Decides.{nat_tests}
use Rattle.std.proofs.lemmas.List.Elements.{All-nil, All-head, All-tail}
use Rattle.std.specs.Prelude.{All}
use Rattle.pauli_product.specs.declared.Letter.{Letter}
use Rattle.pauli_product.specs.declared.Letter.TheVariants.{I}
use Rattle.pauli_product.specs.Signed.{Signed, OfLength, letter_at}
use Rattle.pauli_product.specs.Pulls.{Turn, turn, half, TurnsOfLength}
use Rattle.pauli_product.proofs.Turns.{turns_head, turns_tail}
use Rattle.source_model.specs.declared.Angle.TheVariants.{Eighth, Quarter, Half}
use Rattle.source_model.specs.declared.Item.{Item}
use Rattle.source_model.specs.declared.Item.TheVariants as item
use Rattle.source_model.specs.declared.Given.{Given}
use Rattle.source_model.specs.declared.Given.TheVariants.{Settled}
use Rattle.source_model.specs.Outcomes.{bit_of}
use Rattle.source_model.specs.SourceRun.{Progress, fresh, turned, flips, is_product, axis_of, after, next_of, rest_of, axes_from, axes, progress_after, bit_after}
use Rattle.source_model.specs.Circuits.{AxesOfLength, BitsBelow, bits_in}
use Rattle.source_model.specs.declared.Circuit.{Circuit}
use Rattle.side_by_side.specs.declared.place.Place.{Place}
use Rattle.side_by_side.specs.Places.{fill, pad, bit_in, items_in}
use Rattle.side_by_side.specs.inside.Beside.{pads, writes_in, beside, Leaves}
use Rattle.side_by_side.specs.Joined.{bits_of, place_at, joined_from, joined_items}
use Rattle.side_by_side.specs.Programs.{Program, circuits, joined_outcomes}
use Rattle.side_by_side.proofs.Beside.{Room, Own, AsAlone, runs_as_alone, after_length, bit_low, bit_high, bit_as_alone}
use Rattle.side_by_side.proofs.Appending.{run_append}
use Rattle.side_by_side.proofs.Counting.{products_in_items}
use Rattle.side_by_side.proofs.Fitting.{Runs}

-- what each program gives at its place, one program after another
abbrev pub each_from : {A : Type 0} → (Place → Program → List A) → ℕ → ℕ → ℕ → List Program → List A
each_from give q b h [] = []
each_from give q b h (p ∷ ps) =
    give (place_at q b h p.circuit (circuits ps)) p ++ each_from give (q + p.circuit.qubits) (b + bits_in p.circuit.registers) (h + p.circuit.hidden) ps

-- the axes of each program alone, padded
abbrev pub axes_alone_from : ℕ → ℕ → ℕ → List Program → List Signed
axes_alone_from q b h ps = each_from (λ s p. map (pad s) (axes p.circuit.items p.outcomes)) q b h ps

-- from bit b on the values are those of each program's registers alone, one program after another
abbrev pub AsAloneFrom : ℕ → List Program → (ℕ → Bool) → Type 0
AsAloneFrom b [] value = Unit {0}
AsAloneFrom b (p ∷ ps) value =
    ((k : ℕ) → k < bits_in p.circuit.registers → value (b + k) ≡ bit_after p.circuit.items p.outcomes k) × AsAloneFrom (b + bits_in p.circuit.registers) ps value

-- ---- what a program leaves when it ran alone
either_is : (P : Progress → Type 0) (b : Bool) (x y : Progress) → P x → P y → P (if b then x else y)
either_is P true x y h k = h
either_is P false x y h k = k

progress_length : (n : ℕ) (g : Progress) (items : List Item) (gs : List Given) → AxesOfLength n items → TurnsOfLength n g.turns → TurnsOfLength n (progress_after g items gs).turns
progress_length n g [] gs h k = k
progress_length n g (i ∷ is) gs h k =
    let e : OfLength n (axis_of i) = All-head (λ i. OfLength n (axis_of i)) i is h in
    let more : AxesOfLength n is = All-tail (λ i. OfLength n (axis_of i)) i is h in
    either_is (λ x. TurnsOfLength n x.turns) (is_product i) _ _
    (progress_length n (after g i (next_of gs)) is (rest_of gs) more (after_length n g i (next_of gs) e k))
    (progress_length n (after g i Settled) is gs more (after_length n g i Settled e k))

-- each bit written is below m
abbrev WritesBelow : ℕ → List (ℕ × Bool) → Type 0
WritesBelow m [] = Unit {0}
WritesBelow m (w ∷ ws) = (w.0 < m) × WritesBelow m ws

after_below : (m : ℕ) (g : Progress) (i : Item) (o : Given) → BitsBelow m i → WritesBelow m g.writes → WritesBelow m (after g i o).writes
after_below m g (item.Turn axis Eighth) o e h = h
after_below m g (item.Turn axis Quarter) o e h = h
after_below m g (item.Turn axis Half) o e h = h
after_below m g (item.Measure axis bit) o e h = (e, h)
after_below m g (item.If axis first size value) o e h = either_is (λ x. WritesBelow m x.writes) (flips g first size value) (turned (turn axis half ∷ []) g) g h h

progress_below : (m : ℕ) (g : Progress) (items : List Item) (gs : List Given) → All (BitsBelow m) items → WritesBelow m g.writes → WritesBelow m (progress_after g items gs).writes
progress_below m g [] gs h k = k
progress_below m g (i ∷ is) gs h k =
    let e : BitsBelow m i = All-head (BitsBelow m) i is h in
    let more : All (BitsBelow m) is = All-tail (BitsBelow m) i is h in
    either_is (λ x. WritesBelow m x.writes) (is_product i) _ _
    (progress_below m (after g i (next_of gs)) is (rest_of gs) more (after_below m g i (next_of gs) e k))
    (progress_below m (after g i Settled) is gs more (after_below m g i Settled e k))

-- ---- what stands before programs from qubit q, bit b and hidden bit h on, where hidden bits begin at m
abbrev pub ClearFrom : ℕ → Signed → Type 0
ClearFrom q p = (k : ℕ) → q ≤ k → letter_at p k ≡ I

abbrev pub LeavesFrom : ℕ → List Turn → Type 0
LeavesFrom q [] = Unit {0}
LeavesFrom q (t ∷ ts) = ClearFrom q t.axis × LeavesFrom q ts

pub leaves_some : (q n : ℕ) (ts : List Turn) → LeavesFrom q ts → Leaves q n ts
leaves_some q n [] h = tt
leaves_some q n (t ∷ ts) h = (λ k y z. h.0 k y, leaves_some q n ts h.1)

pub leaves_later : (q n : ℕ) (ts us : List Turn) → LeavesFrom q ts → LeavesFrom (q + n) us → LeavesFrom (q + n) (ts ++ us)
leaves_later q n [] us h k = k
leaves_later q n (t ∷ ts) us h k = (λ j y. h.0 j (omega arith), leaves_later q n ts us h.1 k)

idle_past : (r k : ℕ) → slice_index_or (replicate r I) k I ≡ I
idle_past zero k = refl
idle_past (suc r) zero = refl
idle_past (suc r) (suc k) = idle_past r k

clear_behind : (ls : List Letter) (r k : ℕ) → length ls ≤ k → slice_index_or (ls ++ replicate r I) k I ≡ I
clear_behind [] r k h = idle_past r k
clear_behind (l ∷ ls) r zero h = absurd (omega arith)
clear_behind (l ∷ ls) r (suc k) h = clear_behind ls r k (omega arith)

pub clear_past : (q r : ℕ) (ls : List Letter) (k : ℕ) → q + length ls ≤ k → slice_index_or (fill q r ls) k I ≡ I
clear_past zero r ls k h = clear_behind ls r k (omega arith)
clear_past (suc q) r ls zero h = refl
clear_past (suc q) r ls (suc k) h = clear_past q r ls k (omega arith)

pub pads_leave : (n : ℕ) (s : Place) (ts : List Turn) → TurnsOfLength n ts → LeavesFrom (s.before + n) (pads s ts)
pads_leave n s [] h = tt
pads_leave n s (t ∷ ts) h =
    let e = turns_head n t ts h in
    (λ k y. clear_past s.before s.after t.axis.letters k (omega arith), pads_leave n s ts (turns_tail n t ts h))

record Before (q b h m : ℕ) (f : Progress) : Type 0 where
  leaves : LeavesFrom q f.turns
  unwritten : (c : ℕ) → b ≤ c → (c < m) ⊎ (h ≤ c) → bit_of f.writes c ≡ false

-- a bit that isn't among those written
bit_elsewhere : (s : Place) (ws vs : List (ℕ × Bool)) (m c : ℕ) → WritesBelow m ws → ((x : ℕ) → x < m → (bit_in s x == c) ≡ false) → bit_of (writes_in s ws ++ vs) c ≡ bit_of vs c
bit_elsewhere s [] vs m c h k = refl
bit_elsewhere s (w ∷ ws) vs m c h k = ap (λ t. if t then w.1 else bit_of (writes_in s ws ++ vs) c) (k w.0 h.0) ∙ bit_elsewhere s ws vs m c h.1 k

-- bits of earlier programs
not_earlier : (s : Place) (c x : ℕ) → c < s.bit → s.bit ≤ s.hidden → (bit_in s x == c) ≡ false
not_earlier s c x h k = grind (arith, nat_tests)

-- bits of later programs
not_later : (s : Place) (hidden m c x : ℕ) → s.bit + s.bits ≤ m → m ≤ s.hidden → s.bit + s.bits ≤ c → (c < m) ⊎ (s.hidden + hidden ≤ c) → x < s.bits + hidden → (bit_in s x == c) ≡ false
not_later s hidden m c x h k l (inl z) y = grind (arith, nat_tests)
not_later s hidden m c x h k l (inr z) y = grind (arith, nat_tests)

-- ---- the first of the programs
-- where the bits of registers still to come end by m, and hidden bits begin there
record Fitting (b h m : ℕ) (p : Program) (ps : List Program) : Type 0 where
  low : b + bits_of (circuits (p ∷ ps)) ≤ m
  high : m ≤ h
  fits : Runs p

pub low_or_high : (c m : ℕ) → (c < m) ⊎ (m ≤ c)
low_or_high c m = cases (nat_lt c m) refl
  where
    cases : (b : Bool) → nat_lt c m ≡ b → (c < m) ⊎ (m ≤ c)
    cases true e = let l : c < m = grind (arith, nat_tests) in inl l
    cases false e = let l : m ≤ c = grind (arith, nat_tests) in inr l

unwritten_in : (s : Place) (m c : ℕ) (f : Progress) → s.bit + s.bits ≤ m → m ≤ s.hidden → ((c : ℕ) → s.bit ≤ c → (c < m) ⊎ (s.hidden ≤ c) → bit_of f.writes c ≡ false) → bit_of f.writes (bit_in s c) ≡ false
unwritten_in s m c f h k un = elim (low_or_high c s.bits) [
  | inr l ↦ ap (bit_of f.writes) (bit_high s c l) ∙ un (s.hidden + (c - s.bits)) (omega arith) (inr (omega arith))
  | inl l ↦ ap (bit_of f.writes) (bit_low s c l) ∙ un (s.bit + c) (omega arith) (inl (omega arith))
]

room_first : (q b h m : ℕ) (p : Program) (ps : List Program) (f : Progress) → Fitting b h m p ps → Before q b h m f → Room p.circuit.qubits (place_at q b h p.circuit (circuits ps)) f
room_first q b h m p ps f k before =
    let sum = sum_by-cons (λ (c : Circuit). bits_in c.registers) p.circuit (circuits ps) in
    let low : b + bits_in p.circuit.registers ≤ m = omega (arith, sum, k.low) in
    record {
      apart = omega (arith, k.high);
      leaves = leaves_some q p.circuit.qubits f.turns before.leaves;
      unwritten = λ c. unwritten_in (place_at q b h p.circuit (circuits ps)) m c f low k.high before.unwritten;
    }

alone_length : (p : Program) → Runs p → TurnsOfLength p.circuit.qubits (progress_after fresh p.circuit.items p.outcomes).turns
alone_length p k = progress_length p.circuit.qubits fresh p.circuit.items p.outcomes k.fits.axes_fit (All-nil (λ t. OfLength p.circuit.qubits t.axis))

alone_below : (p : Program) → Runs p → WritesBelow (bits_in p.circuit.registers + p.circuit.hidden) (progress_after fresh p.circuit.items p.outcomes).writes
alone_below p k = progress_below (bits_in p.circuit.registers + p.circuit.hidden) fresh p.circuit.items p.outcomes k.fits.bits_fit tt

before_rest : (q b h m : ℕ) (p : Program) (ps : List Program) (f : Progress) → Fitting b h m p ps → Before q b h m f →
    Before (q + p.circuit.qubits) (b + bits_in p.circuit.registers) (h + p.circuit.hidden) m (beside (place_at q b h p.circuit (circuits ps)) f (progress_after fresh p.circuit.items p.outcomes))
before_rest q b h m p ps f k before =
    let s = place_at q b h p.circuit (circuits ps) in
    let g = progress_after fresh p.circuit.items p.outcomes in
    let sum = sum_by-cons (λ (c : Circuit). bits_in c.registers) p.circuit (circuits ps) in
    let low : b + bits_in p.circuit.registers ≤ m = omega (arith, sum, k.low) in
    record {
      leaves = leaves_later q p.circuit.qubits f.turns (pads s g.turns) before.leaves (pads_leave p.circuit.qubits s g.turns (alone_length p k.fits));
      unwritten = λ c y z.
          bit_elsewhere s g.writes f.writes (bits_in p.circuit.registers + p.circuit.hidden) c (alone_below p k.fits) (λ x l. not_later s p.circuit.hidden m c x low k.high y z l)
          ∙ before.unwritten c (omega arith) (elim z [ inl u ↦ inl u | inr u ↦ inr (omega arith) ]);
    }

beside_fresh : (s : Place) (f : Progress) → beside s f fresh ≡ f
beside_fresh s f = let make : List Turn → Progress = λ ts. record { turns = ts; writes = f.writes } in ap make (append-nil f.turns)

-- ---- all programs
record Joins (q b h : ℕ) (f : Progress) (ps : List Program) : Type 0 where
  all_axes : axes_from f (joined_from q b h (circuits ps)) (joined_outcomes ps) ≡ axes_alone_from q b h ps
  kept : (c : ℕ) → c < b → bit_of (progress_after f (joined_from q b h (circuits ps)) (joined_outcomes ps)).writes c ≡ bit_of f.writes c
  all_bits : AsAloneFrom b ps (bit_of (progress_after f (joined_from q b h (circuits ps)) (joined_outcomes ps)).writes)

joins_step : (q b h m : ℕ) (p : Program) (ps : List Program) (f : Progress) → Fitting b h m p ps → Before q b h m f →
    Joins (q + p.circuit.qubits) (b + bits_in p.circuit.registers) (h + p.circuit.hidden) (beside (place_at q b h p.circuit (circuits ps)) f (progress_after fresh p.circuit.items p.outcomes)) ps → Joins q b h f (p ∷ ps)
joins_step q b h m p ps f k before rest =
    let s = place_at q b h p.circuit (circuits ps) in
    let g = progress_after fresh p.circuit.items p.outcomes in
    let mine = items_in s p.circuit.items in
    let others = joined_from (q + p.circuit.qubits) (b + bits_in p.circuit.registers) (h + p.circuit.hidden) (circuits ps) in
    let later = joined_outcomes ps in
    let room = room_first q b h m p ps f k before in
    let own : Own p.circuit.qubits s p.circuit.items = record { axes_fit = k.fits.fits.axes_fit; reads_fit = k.fits.fits.reads_fit } in
    let alone : AsAlone s f fresh p.circuit.items p.outcomes = runs_as_alone p.circuit.qubits s f fresh p.circuit.items p.outcomes room own (All-nil (λ t. OfLength p.circuit.qubits t.axis)) in
    let first_axes : axes_from f mine p.outcomes ≡ map (pad s) (axes p.circuit.items p.outcomes) = ap (λ x. axes_from x mine p.outcomes) (sym (beside_fresh s f)) ∙ alone.axes in
    let first_progress : progress_after f mine p.outcomes ≡ beside s f g = ap (λ x. progress_after x mine p.outcomes) (sym (beside_fresh s f)) ∙ alone.progress in
    let both = run_append f mine others p.outcomes later (k.fits.one_each ∙ sym (products_in_items s p.circuit.items)) in
    let end : progress_after f (mine ++ others) (p.outcomes ++ later) ≡ progress_after (beside s f g) others later = both.progress ∙ ap (λ x. progress_after x others later) first_progress in
    let sum = sum_by-cons (λ (c : Circuit). bits_in c.registers) p.circuit (circuits ps) in
    let low : b ≤ h = omega (arith, k.low, k.high) in
    record {
      all_axes = both.axes ∙ ap₂ ◌++◌ first_axes (ap (λ x. axes_from x others later) first_progress ∙ rest.all_axes);
      kept = λ c l.
          ap (λ x. bit_of x.writes c) end
          ∙ rest.kept c (omega arith)
          ∙ bit_elsewhere s g.writes f.writes (bits_in p.circuit.registers + p.circuit.hidden) c (alone_below p k.fits) (λ x y. not_earlier s c x l low);
      all_bits = (
        λ c l.
            ap (λ x. bit_of x.writes (b + c)) end
            ∙ rest.kept (b + c) (omega arith)
            ∙ ap (bit_of (beside s f g).writes) (sym (bit_low s c l))
            ∙ bit_as_alone p.circuit.qubits s f g c room,
        subst (λ (x : Progress). AsAloneFrom (b + bits_in p.circuit.registers) ps (bit_of x.writes)) (sym end) rest.all_bits,
      );
    }

joins : (q b h m : ℕ) (ps : List Program) (f : Progress) → All Runs ps → b + bits_of (circuits ps) ≤ m → m ≤ h → Before q b h m f → Joins q b h f ps
joins q b h m [] f fit low high before = record { all_axes = refl; kept = λ c l. refl; all_bits = tt }
joins q b h m (p ∷ ps) f fit low high before =
    let sum = sum_by-cons (λ (c : Circuit). bits_in c.registers) p.circuit (circuits ps) in
    let k : Fitting b h m p ps = record { low = low; high = high; fits = All-head Runs p ps fit } in
    joins_step q b h m p ps f k before
    (joins (q + p.circuit.qubits) (b + bits_in p.circuit.registers) (h + p.circuit.hidden) m ps (beside (place_at q b h p.circuit (circuits ps)) f (progress_after fresh p.circuit.items p.outcomes))
    (All-tail Runs p ps fit) (omega (arith, sum)) (omega arith) (before_rest q b h m p ps f k before))

from_fresh : (ps : List Program) → All Runs ps → Joins 0 0 (bits_of (circuits ps)) fresh ps
from_fresh ps fit = joins 0 0 (bits_of (circuits ps)) (bits_of (circuits ps)) ps fresh fit (omega arith) (omega arith) (record { leaves = tt; unwritten = λ c y z. refl })

pub all_axes_alone : (ps : List Program) → All Runs ps → axes (joined_items (circuits ps)) (joined_outcomes ps) ≡ axes_alone_from 0 0 (bits_of (circuits ps)) ps
all_axes_alone ps fit = (from_fresh ps fit).all_axes

pub all_bits_alone : (ps : List Program) → All Runs ps → AsAloneFrom 0 ps (bit_after (joined_items (circuits ps)) (joined_outcomes ps))
all_bits_alone ps fit = (from_fresh ps fit).all_bits
