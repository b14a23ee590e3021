-- The joined items keep to what is asked of a circuit's items.
use Rattle.std.proofs.Common.{◌≡◌, ℕ, ◌+◌, ◌-◌, ◌<◌, ◌≤◌, ◌⊎◌, inl, inr, List, [], ◌∷◌, ◌++◌, length, replicate, slice_index_or, refl, ap, sym, ◌∙◌, arith, length-append, subst}
use Rattle.std.specs.Prelude.{All}
use Rattle.std.proofs.lemmas.Bool.Decides.{nat_tests}
use Rattle.std.proofs.lemmas.List.{length-replicate}
use Rattle.std.proofs.lemmas.List.Elements.{All-nil, All-head, All-tail, All-append, All-map, All-weaker}
use Rattle.std.proofs.lemmas.List.Sums.{sum_by-cons}
use Rattle.pauli_product.specs.declared.Letter.{Letter}
use Rattle.pauli_product.specs.declared.Letter.TheVariants.{I}
use Rattle.pauli_product.specs.Signed.{Signed, OfLength}
use Rattle.source_model.specs.declared.Item.{Item}
use Rattle.source_model.specs.declared.Item.TheVariants as item
use Rattle.source_model.specs.SourceRun.{axis_of}
use Rattle.source_model.specs.Circuits.{AxesOfLength, BitsBelow, HiddenInOrder, bits_in}
use Rattle.source_model.specs.declared.Circuit.{Circuit}
use Rattle.side_by_side.specs.declared.place.Place.{Place}
use Rattle.side_by_side.specs.Places.{fill, bit_in, range_in, item_in, items_in}
use Rattle.side_by_side.specs.inside.Beside.{ReadsOneKind, Fits}
use Rattle.side_by_side.specs.Joined.{qubits_of, bits_of, hidden_of, place_at, joined_from, joined_items}
use Rattle.side_by_side.specs.inside.Drafts.{HasRoom}
use Rattle.side_by_side.proofs.Beside.{axis_of_in, bit_high}

-- the hidden bits of a circuit alone are measured in order
abbrev pub HidesInOrder : Circuit → Type 0
HidesInOrder c = HiddenInOrder (bits_in c.registers) (bits_in c.registers) (bits_in c.registers + c.hidden) c.items

-- ---- lengths
pub length_fill : (q r : ℕ) (ls : List Letter) → length (fill q r ls) ≡ q + (length ls + r)
length_fill q r ls =
    omega (arith, length-append (replicate q I) (ls ++ replicate r I), length-append ls (replicate r I), length-replicate q I, length-replicate r I)

item_length : (n all : ℕ) (s : Place) (i : Item) → s.before + (n + s.after) ≡ all → OfLength n (axis_of i) → OfLength all (axis_of (item_in s i))
item_length n all s i e h = ap (λ (p : Signed). length p.letters) (axis_of_in s i) ∙ omega (arith, length_fill s.before s.after (axis_of i).letters, e, h)

axes_joined : (q b h all : ℕ) (ps : List Circuit) → All Fits ps → q + qubits_of ps ≡ all → AxesOfLength all (joined_from q b h ps)
axes_joined q b h all [] fit e = All-nil (λ i. OfLength all (axis_of i))
axes_joined q b h all (p ∷ ps) fit e =
    let s = place_at q b h p ps in
    let sum = sum_by-cons (λ (p : Circuit). p.qubits) p ps in
    let room : q + (p.qubits + qubits_of ps) ≡ all = omega (arith, sum, e) in
    All-append (λ i. OfLength all (axis_of i)) (items_in s p.items) (joined_from (q + p.qubits) (b + bits_in p.registers) (h + p.hidden) ps)
    (All-map (λ i. OfLength all (axis_of i)) (item_in s) p.items (All-weaker (λ i. OfLength p.qubits (axis_of i)) (λ i. OfLength all (axis_of (item_in s i))) (λ i. item_length p.qubits all s i room) p.items (All-head Fits p ps fit).axes_fit))
    (axes_joined (q + p.qubits) (b + bits_in p.registers) (h + p.hidden) all ps (All-tail Fits p ps fit) (omega (arith, room)))

-- ---- bits
-- a place whose bits of registers end by m, where hidden bits begin, and whose hidden bits end by `end`
pub record Within (hidden m end : ℕ) (s : Place) : Type 0 where
  pub registers : s.bit + s.bits ≤ m
  pub hidden_from : m ≤ s.hidden
  pub hidden_to : s.hidden + hidden ≤ end

measure_below : (s : Place) (hidden m end bit : ℕ) → s.bit + s.bits ≤ m → m ≤ s.hidden → s.hidden + hidden ≤ end → bit < s.bits + hidden → bit_in s bit < end
measure_below s hidden m end bit h k l n = grind (arith, nat_tests)

reads_below : (s : Place) (hidden m end first size : ℕ) → s.bit + s.bits ≤ m → m ≤ s.hidden → s.hidden + hidden ≤ end → first + size ≤ s.bits + hidden → (first + size ≤ s.bits) ⊎ (s.bits ≤ first) → range_in s first size + size ≤ end
reads_below s hidden m end first size h k l n (inl z) = grind (arith, nat_tests)
reads_below s hidden m end first size h k l n (inr z) = grind (arith, nat_tests)

item_below : (s : Place) (hidden m end : ℕ) (i : Item) → Within hidden m end s → BitsBelow (s.bits + hidden) i × ReadsOneKind s.bits i → BitsBelow end (item_in s i)
item_below s hidden m end (item.Turn axis angle) w h = tt
item_below s hidden m end (item.Measure axis bit) w h = measure_below s hidden m end bit w.registers w.hidden_from w.hidden_to h.0
item_below s hidden m end (item.If axis first size value) w h = reads_below s hidden m end first size w.registers w.hidden_from w.hidden_to h.0 h.1

pub within_first : (q b h m end : ℕ) (p : Circuit) (ps : List Circuit) → b + bits_of (p ∷ ps) ≤ m → m ≤ h → h + hidden_of (p ∷ ps) ≤ end → Within p.hidden m end (place_at q b h p ps)
within_first q b h m end p ps low high last = record {
  registers = omega (arith, low, sum_by-cons (λ (p : Circuit). bits_in p.registers) p ps);
  hidden_from = high;
  hidden_to = omega (arith, last, sum_by-cons (λ (p : Circuit). p.hidden) p ps);
}

bits_joined : (q b h m end : ℕ) (ps : List Circuit) → All Fits ps → b + bits_of ps ≤ m → m ≤ h → h + hidden_of ps ≤ end → All (BitsBelow end) (joined_from q b h ps)
bits_joined q b h m end [] fit low high last = All-nil (BitsBelow end)
bits_joined q b h m end (p ∷ ps) fit low high last =
    let s = place_at q b h p ps in
    let here = All-head Fits p ps fit in
    let w = within_first q b h m end p ps low high last in
    let both : All (λ i. BitsBelow (bits_in p.registers + p.hidden) i × ReadsOneKind (bits_in p.registers) i) p.items = λ k d l. (here.bits_fit k d l, here.reads_fit k d l) in
    let registers = sum_by-cons (λ (p : Circuit). bits_in p.registers) p ps in
    let hidden = sum_by-cons (λ (p : Circuit). p.hidden) p ps in
    All-append (BitsBelow end) (items_in s p.items) (joined_from (q + p.qubits) (b + bits_in p.registers) (h + p.hidden) ps)
    (All-map (BitsBelow end) (item_in s) p.items (All-weaker (λ i. BitsBelow (bits_in p.registers + p.hidden) i × ReadsOneKind (bits_in p.registers) i) (λ i. BitsBelow end (item_in s i)) (λ i. item_below s p.hidden m end i w) p.items both))
    (bits_joined (q + p.qubits) (b + bits_in p.registers) (h + p.hidden) m end ps (All-tail Fits p ps fit) (omega (arith, registers, low)) (omega (arith, high)) (omega (arith, hidden, last)))

-- ---- hidden bits
hidden_append : (bits next mid end : ℕ) (is js : List Item) → HiddenInOrder bits next mid is → HiddenInOrder bits mid end js → HiddenInOrder bits next end (is ++ js)
hidden_append bits next mid end [] js h k = subst (λ (n : ℕ). HiddenInOrder bits n end js) (sym h) k
hidden_append bits next mid end (item.Turn axis angle ∷ is) js h k = hidden_append bits next mid end is js h k
hidden_append bits next mid end (item.Measure axis bit ∷ is) js (inl h) k = inl (h.0, hidden_append bits next mid end is js h.1 k)
hidden_append bits next mid end (item.Measure axis bit ∷ is) js (inr h) k = inr (h.0, hidden_append bits (next + 1) mid end is js h.1 k)
hidden_append bits next mid end (item.If axis first size value ∷ is) js h k = (h.0, hidden_append bits next mid end is js h.1 k)

register_below : (s : Place) (m bit : ℕ) → s.bit + s.bits ≤ m → bit < s.bits → bit_in s bit < m
register_below s m bit h l = grind (arith, nat_tests)

read_so_far : (s : Place) (m first size next : ℕ) → s.bit + s.bits ≤ m → m ≤ s.hidden → s.bits ≤ next → first + size ≤ next → (first + size ≤ s.bits) ⊎ (s.bits ≤ first) → range_in s first size + size ≤ s.hidden + (next - s.bits)
read_so_far s m first size next h k l n (inl z) = grind (arith, nat_tests)
read_so_far s m first size next h k l n (inr z) = grind (arith, nat_tests)

hidden_in : (s : Place) (m next end at to : ℕ) (items : List Item) → s.bit + s.bits ≤ m → m ≤ s.hidden → s.bits ≤ next → at ≡ s.hidden + (next - s.bits) → to ≡ s.hidden + (end - s.bits) → All (ReadsOneKind s.bits) items → HiddenInOrder s.bits next end items → HiddenInOrder m at to (items_in s items)
hidden_in s m next end at to [] h k l e f rs o = e ∙ ap (λ n. s.hidden + (n - s.bits)) o ∙ sym f
hidden_in s m next end at to (item.Turn axis angle ∷ is) h k l e f rs o = hidden_in s m next end at to is h k l e f (All-tail (ReadsOneKind s.bits) (item.Turn axis angle) is rs) o
hidden_in s m next end at to (item.Measure axis bit ∷ is) h k l e f rs (inl o) =
    inl (register_below s m bit h o.0, hidden_in s m next end at to is h k l e f (All-tail (ReadsOneKind s.bits) (item.Measure axis bit) is rs) o.1)
hidden_in s m next end at to (item.Measure axis bit ∷ is) h k l e f rs (inr o) =
    let here : bit_in s bit ≡ at = ap (bit_in s) o.0 ∙ bit_high s next l ∙ sym e in
    inr (here, hidden_in s m (next + 1) end (at + 1) to is h k (omega arith) (omega arith) f (All-tail (ReadsOneKind s.bits) (item.Measure axis bit) is rs) o.1)
hidden_in s m next end at to (item.If axis first size value ∷ is) h k l e f rs o =
    let one = All-head (ReadsOneKind s.bits) (item.If axis first size value) is rs in
    let so_far : range_in s first size + size ≤ at = omega (arith, read_so_far s m first size next h k l o.0 one, e) in
    (so_far, hidden_in s m next end at to is h k l e f (All-tail (ReadsOneKind s.bits) (item.If axis first size value) is rs) o.1)

hidden_joined : (q b h m end : ℕ) (ps : List Circuit) → All Fits ps → All HidesInOrder ps → b + bits_of ps ≤ m → m ≤ h → h + hidden_of ps ≡ end → HiddenInOrder m h end (joined_from q b h ps)
hidden_joined q b h m end [] fit hid low high last = omega arith
hidden_joined q b h m end (p ∷ ps) fit hid low high last =
    let s = place_at q b h p ps in
    let registers = sum_by-cons (λ (p : Circuit). bits_in p.registers) p ps in
    let hidden = sum_by-cons (λ (p : Circuit). p.hidden) p ps in
    hidden_append m h (h + p.hidden) end (items_in s p.items) (joined_from (q + p.qubits) (b + bits_in p.registers) (h + p.hidden) ps)
    (hidden_in s m (bits_in p.registers) (bits_in p.registers + p.hidden) h (h + p.hidden) p.items (omega (arith, registers, low)) high (omega arith) (omega arith) (omega arith) (All-head Fits p ps fit).reads_fit (All-head HidesInOrder p ps hid))
    (hidden_joined (q + p.qubits) (b + bits_in p.registers) (h + p.hidden) m end ps (All-tail Fits p ps fit) (All-tail HidesInOrder p ps hid) (omega (arith, registers, low)) (omega (arith, high)) (omega (arith, hidden, last)))

-- the joined items keep to what is asked of a circuit's items
pub record JoinedFits (cs : List Circuit) : Type 0 where
  pub axes_fit : AxesOfLength (qubits_of cs) (joined_items cs)
  pub bits_fit : All (BitsBelow (bits_of cs + hidden_of cs)) (joined_items cs)
  pub hidden_in_order : HiddenInOrder (bits_of cs) (bits_of cs) (bits_of cs + hidden_of cs) (joined_items cs)

pub joined_items_fit : (cs : List Circuit) → All Fits cs → All HidesInOrder cs → JoinedFits cs
joined_items_fit cs fit hid =
    let m = bits_of cs in
    record {
      axes_fit = axes_joined 0 0 m (qubits_of cs) cs fit (omega arith);
      bits_fit = bits_joined 0 0 m m (m + hidden_of cs) cs fit (omega arith) (omega arith) (omega arith);
      hidden_in_order = hidden_joined 0 0 m m (m + hidden_of cs) cs fit hid (omega arith) (omega arith) refl;
    }

-- ---- room for a program's items
pub room_for : (c : Circuit) (s : Place) (m end : ℕ) → Fits c → s.bits ≡ bits_in c.registers → s.before + (c.qubits + s.after) ≤ 1024 → Within c.hidden m end s →
    bits_in c.registers + c.hidden ≤ 65536 → end ≤ 65536 → All (HasRoom s) c.items
room_for c s m end f e few w own joined k d l = record {
  qubits = c.qubits;
  axis = f.axes_fit k d l;
  few = few;
  own = below (slice_index_or c.items k d) (bits_in c.registers + c.hidden) 65536 own (f.bits_fit k d l);
  reads = (fit e).1;
  joined = below (item_in s (slice_index_or c.items k d)) end 65536 joined (item_below s c.hidden m end (slice_index_or c.items k d) w (fit e));
}
  where
    below : (i : Item) (n m : ℕ) → n ≤ m → BitsBelow n i → BitsBelow m i
    below (item.Turn axis angle) n m l h = tt
    below (item.Measure axis bit) n m l h = omega arith
    below (item.If axis first size value) n m l h = omega arith

    fit : s.bits ≡ bits_in c.registers → BitsBelow (s.bits + c.hidden) (slice_index_or c.items k d) × ReadsOneKind s.bits (slice_index_or c.items k d)
    fit same = subst (λ (n : ℕ). BitsBelow (n + c.hidden) (slice_index_or c.items k d) × ReadsOneKind n (slice_index_or c.items k d)) (sym same) (f.bits_fit k d l, f.reads_fit k d l)
