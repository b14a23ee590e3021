-- What belongs to a program, by its number.
use Rattle.std.proofs.Common.{◌≡◌, ℕ, zero, suc, ◌+◌, ◌<◌, Bool, true, false, if◌then◌else◌, List, [], ◌∷◌, ◌++◌, Some, map, take, drop, length, replicate, slice_get, refl, ap, ap₂, sym, ◌∙◌, arith, drop-drop, subst, ◌-◌, inl, inr}
use Rattle.std.specs.Prelude.{All}
use Rattle.std.proofs.lemmas.List.{take_at, drop_at, length-map, length-replicate}
use Rattle.std.proofs.lemmas.List.Elements.{All-nil, All-head, All-tail}
use Rattle.std.proofs.lemmas.List.Sums.{sum_by-cons}
use Rattle.std.proofs.lemmas.Option.{same_Some}
use Rattle.pauli_product.specs.declared.Letter.{Letter}
use Rattle.pauli_product.specs.declared.Letter.TheVariants.{I}
use Rattle.pauli_product.specs.Signed.{Signed, OfLength}
use Rattle.pauli_product.specs.Pulls.{TurnsOfLength}
use Rattle.pauli_product.proofs.Turns.{length_pull}
use Rattle.source_model.specs.declared.Circuit.{Circuit}
use Rattle.source_model.specs.declared.Item.{Item}
use Rattle.source_model.specs.declared.Given.{Given}
use Rattle.source_model.specs.declared.Given.TheVariants.{Settled}
use Rattle.source_model.specs.SourceRun.{Progress, fresh, axis_in, is_product, axis_of, after, next_of, rest_of, axes_from, axes}
use Rattle.source_model.specs.Circuits.{AxesOfLength, bits_in}
use Rattle.source_model.specs.declared.Static.{Static}
use Rattle.source_model.specs.Statics.{statics}
use Rattle.side_by_side.specs.declared.place.Place.{Place}
use Rattle.side_by_side.specs.Places.{pad, items_in, static_in}
use Rattle.side_by_side.specs.Joined.{products_in, qubits_of, products_of, bits_of, hidden_of, place_at, place_of, joined_from, joined_items}
use Rattle.side_by_side.specs.Programs.{Program, circuits, axes_alone, bit_alone, axes_joined, bit_joined, place_in, first_product, first_bit, share_of, axes_at, own_part, own_axes}
use Rattle.side_by_side.proofs.Beside.{after_length}
use Rattle.side_by_side.proofs.Counting.{products-cons, products-append, products_in_items}
use Rattle.side_by_side.proofs.Fitting.{Runs}
use Rattle.side_by_side.proofs.StaticsBeside.{Fit, length_statics, statics_alone}
use Rattle.side_by_side.proofs.Together.{each_from, AsAloneFrom, low_or_high, all_axes_alone, all_bits_alone}

-- as many axes as products
length_step : (b : Bool) (n : ℕ) (xs ys : List Signed) → suc n ≡ suc (length xs) → n ≡ length ys → (axis : Signed) → (if b then 1 else 0) + n ≡ length (if b then (axis ∷ xs) else ys)
length_step true n xs ys e f axis = omega arith
length_step false n xs ys e f axis = omega arith

pub length_axes : (f : Progress) (items : List Item) (gs : List Given) → products_in items ≡ length (axes_from f items gs)
length_axes f [] gs = refl
length_axes f (i ∷ is) gs =
    products-cons i is
    ∙ length_step (is_product i) (products_in is) (axes_from (after f i (next_of gs)) is (rest_of gs)) (axes_from (after f i Settled) is gs)
    (ap suc (length_axes (after f i (next_of gs)) is (rest_of gs))) (length_axes (after f i Settled) is gs) (axis_in f (axis_of i))

-- the place where the first numbers are these
place_further : ℕ → ℕ → ℕ → List Circuit → ℕ → Circuit → Place
place_further q b h cs i c = record {
  before = q + qubits_of (take i cs);
  after = qubits_of (drop (suc i) cs);
  bits = bits_in c.registers;
  bit = b + bits_of (take i cs);
  hidden = h + hidden_of (take i cs);
}

make_place : ℕ → ℕ → ℕ → ℕ → ℕ → Place
make_place before after bits bit hidden = record { before = before; after = after; bits = bits; bit = bit; hidden = hidden }

same_place : (after bits : ℕ) (q q' b b' h h' : ℕ) → q ≡ q' → b ≡ b' → h ≡ h' → make_place q after bits b h ≡ make_place q' after bits b' h'
unfolding make_place
same_place after bits q q' b b' h h' e f g = λ i. record { before = e i; after = after; bits = bits; bit = f i; hidden = g i }

place_first : (q b h : ℕ) (c : Circuit) (cs : List Circuit) → place_at q b h c cs ≡ place_further q b h (c ∷ cs) 0 c
unfolding make_place place_further
place_first q b h c cs = same_place (qubits_of cs) (bits_in c.registers) q (q + 0) b (b + 0) h (h + 0) (omega arith) (omega arith) (omega arith)

place_next : (q b h : ℕ) (d : Circuit) (cs : List Circuit) (i : ℕ) (c : Circuit) → place_further (q + d.qubits) (b + bits_in d.registers) (h + d.hidden) cs i c ≡ place_further q b h (d ∷ cs) (suc i) c
unfolding make_place place_further
place_next q b h d cs i c =
    let front = take i cs in
    same_place (qubits_of (drop (suc i) cs)) (bits_in c.registers) _ _ _ _ _ _
    (omega (arith, sum_by-cons (λ (c : Circuit). c.qubits) d front))
    (omega (arith, sum_by-cons (λ (c : Circuit). bits_in c.registers) d front))
    (omega (arith, sum_by-cons (λ (c : Circuit). c.hidden) d front))

place_all : (cs : List Circuit) (i : ℕ) (c : Circuit) → place_further 0 0 (bits_of cs) cs i c ≡ place_of cs i c
unfolding make_place place_further
place_all cs i c = same_place (qubits_of (drop (suc i) cs)) (bits_in c.registers) _ _ _ _ _ _ (omega arith) (omega arith) refl

module _ {A : Type 0} (give : Place → Program → List A) (one_each : (s : Place) (p : Program) → length (give s p) ≡ products_in p.circuit.items) where
  part_of : (q b h : ℕ) (ps : List Program) (i : ℕ) (p : Program) → slice_get ps i ≡ Some p → share_of (circuits ps) i p.circuit (each_from give q b h ps) ≡ give (place_further q b h (circuits ps) i p.circuit) p
  part_of q b h [] i p e = cc
  part_of q b h (r ∷ ps) zero p e =
      let same : r ≡ p = same_Some r p e in
      subst (λ (x : Program). take (products_in x.circuit.items) (each_from give q b h (r ∷ ps)) ≡ give (place_further q b h (circuits (r ∷ ps)) 0 x.circuit) x) same
      (take_at (give (place_at q b h r.circuit (circuits ps)) r) (each_from give (q + r.circuit.qubits) (b + bits_in r.circuit.registers) (h + r.circuit.hidden) ps) (products_in r.circuit.items) (one_each (place_at q b h r.circuit (circuits ps)) r)
      ∙ ap (λ s. give s r) (place_first q b h r.circuit (circuits ps)))
  part_of q b h (r ∷ ps) (suc i) p e =
      let mine = give (place_at q b h r.circuit (circuits ps)) r in
      let others = each_from give (q + r.circuit.qubits) (b + bits_in r.circuit.registers) (h + r.circuit.hidden) ps in
      let further : drop (first_product (r ∷ ps) (suc i)) (mine ++ others) ≡ drop (first_product ps i) others =
      ap (λ n. drop n (mine ++ others)) (sum_by-cons (λ (c : Circuit). products_in c.items) r.circuit (take i (circuits ps)))
      ∙ sym (drop-drop (first_product ps i) (products_in r.circuit.items) (mine ++ others))
      ∙ ap (drop (first_product ps i)) (drop_at mine others (products_in r.circuit.items) (one_each (place_at q b h r.circuit (circuits ps)) r)) in
      ap (take (products_in p.circuit.items)) further
      ∙ part_of (q + r.circuit.qubits) (b + bits_in r.circuit.registers) (h + r.circuit.hidden) ps i p e
      ∙ ap (λ s. give s p) (place_next q b h r.circuit (circuits ps) i p.circuit)

  -- in all programs, from the first one
  part_of_all : (ps : List Program) (i : ℕ) (p : Program) → slice_get ps i ≡ Some p → share_of (circuits ps) i p.circuit (each_from give 0 0 (bits_of (circuits ps)) ps) ≡ give (place_in ps i p) p
  part_of_all ps i p e = part_of 0 0 (bits_of (circuits ps)) ps i p e ∙ ap (λ s. give s p) (place_all (circuits ps) i p.circuit)

bits_from : (b : ℕ) (ps : List Program) (value : ℕ → Bool) (i k : ℕ) (p : Program) → AsAloneFrom b ps value → slice_get ps i ≡ Some p → k < bits_in p.circuit.registers → value ((b + first_bit ps i) + k) ≡ bit_alone p k
bits_from b [] value i k p h e l = cc
bits_from b (r ∷ ps) value zero k p h e l =
    let same : r ≡ p = same_Some r p e in
    let here : value (b + k) ≡ bit_alone p k = subst (λ (x : Program). (k : ℕ) → k < bits_in x.circuit.registers → value (b + k) ≡ bit_alone x k) same h.0 k l in
    let n : (b + 0) + k ≡ b + k = omega arith in
    ap value n ∙ here
bits_from b (r ∷ ps) value (suc i) k p h e l =
    let n : (b + first_bit (r ∷ ps) (suc i)) + k ≡ ((b + bits_in r.circuit.registers) + first_bit ps i) + k = omega (arith, sum_by-cons (λ (c : Circuit). bits_in c.registers) r.circuit (take i (circuits ps))) in
    ap value n ∙ bits_from (b + bits_in r.circuit.registers) ps value i k p h.1 e l

pub axes_are_those_alone : (ps : List Program) (i : ℕ) (p : Program) → All Runs ps → slice_get ps i ≡ Some p → axes_at ps i p ≡ map (pad (place_in ps i p)) (axes_alone p)
axes_are_those_alone ps i p fit e =
    let give : Place → Program → List Signed = λ s p. map (pad s) (axes p.circuit.items p.outcomes) in
    ap (share_of (circuits ps) i p.circuit) (all_axes_alone ps fit)
    ∙ part_of_all give (λ s p. length-map (axes p.circuit.items p.outcomes) (pad s) ∙ sym (length_axes fresh p.circuit.items p.outcomes)) ps i p e

pub statics_are_those_alone : (ps : List Program) (i : ℕ) (p : Program) → All Fit ps → slice_get ps i ≡ Some p → share_of (circuits ps) i p.circuit (statics (joined_items (circuits ps))) ≡ map (static_in (place_in ps i p)) (statics p.circuit.items)
statics_are_those_alone ps i p fit e =
    let give : Place → Program → List Static = λ s p. map (static_in s) (statics p.circuit.items) in
    ap (share_of (circuits ps) i p.circuit) (statics_alone ps fit)
    ∙ part_of_all give (λ s p. length-map (statics p.circuit.items) (static_in s) ∙ length_statics p.circuit.items) ps i p e

pub bits_are_those_alone : (ps : List Program) (i k : ℕ) (p : Program) → All Runs ps → slice_get ps i ≡ Some p → k < bits_in p.circuit.registers →
    bit_joined ps (first_bit ps i + k) ≡ bit_alone p k
bits_are_those_alone ps i k p fit e l =
    let n : first_bit ps i + k ≡ (0 + first_bit ps i) + k = omega arith in
    ap (bit_joined ps) n ∙ bits_from 0 ps (bit_joined ps) i k p (all_bits_alone ps fit) e l

-- ---- unpadded
own_part_pad : (s : Place) (n : ℕ) (p : Signed) → OfLength n p → own_part s.before n (pad s p) ≡ p
own_part_pad s n p e =
    let own : List Letter → Signed = λ ls. record { sign = p.sign; letters = ls } in
    ap own
    (ap (take n) (drop_at (replicate s.before I) (p.letters ++ replicate s.after I) s.before (length-replicate s.before I))
    ∙ take_at p.letters (replicate s.after I) n e)

abbrev unpad : Place → ℕ → List Signed → List Signed
unpad s n as' = map (own_part s.before n) (map (pad s) as')

unpad_step : (s : Place) (n : ℕ) (b : Bool) (axis : Signed) (xs ys : List Signed) → OfLength n axis → unpad s n xs ≡ xs → unpad s n ys ≡ ys → unpad s n (if b then (axis ∷ xs) else ys) ≡ (if b then (axis ∷ xs) else ys)
unpad_step s n true axis xs ys l e f = ap₂ ◌∷◌ (own_part_pad s n axis l) e
unpad_step s n false axis xs ys l e f = f

unpad_axes : (s : Place) (n : ℕ) (f : Progress) (items : List Item) (gs : List Given) → AxesOfLength n items → TurnsOfLength n f.turns → unpad s n (axes_from f items gs) ≡ axes_from f items gs
unpad_axes s n f [] gs h k = refl
unpad_axes s n f (i ∷ is) gs h k =
    let e : OfLength n (axis_of i) = All-head (λ i. OfLength n (axis_of i)) i is h in
    let more : AxesOfLength n is = All-tail (λ i. OfLength n (axis_of i)) i is h in
    unpad_step s n (is_product i) (axis_in f (axis_of i)) (axes_from (after f i (next_of gs)) is (rest_of gs)) (axes_from (after f i Settled) is gs)
    (length_pull n f.turns (axis_of i) k e)
    (unpad_axes s n (after f i (next_of gs)) is (rest_of gs) more (after_length n f i (next_of gs) e k))
    (unpad_axes s n (after f i Settled) is gs more (after_length n f i Settled e k))

pub all_at : {A : Type 0} (P : A → Type 0) (xs : List A) (i : ℕ) (x : A) → All P xs → slice_get xs i ≡ Some x → P x
all_at P [] i x h e = cc
all_at P (y ∷ xs) zero x h e = subst P (same_Some y x e) (All-head P y xs h)
all_at P (y ∷ xs) (suc i) x h e = all_at P xs i x (All-tail P y xs h) e

pub own_axes_are_those_alone : (ps : List Program) (i : ℕ) (p : Program) → All Runs ps → slice_get ps i ≡ Some p → own_axes ps i p ≡ axes_alone p
own_axes_are_those_alone ps i p fit e =
    let s = place_in ps i p in
    ap (map (own_part s.before p.circuit.qubits)) (axes_are_those_alone ps i p fit e)
    ∙ unpad_axes s p.circuit.qubits fresh p.circuit.items p.outcomes (all_at Runs ps i p fit e).fits.axes_fit (All-nil (λ t. OfLength p.circuit.qubits t.axis))

-- ---- product by product
get_map : {A B : Type 0} (g : A → B) (xs : List A) (k : ℕ) (x : A) → slice_get xs k ≡ Some x → slice_get (map g xs) k ≡ Some (g x)
get_map g [] k x e = cc
get_map g (y ∷ xs) zero x e = ap (λ z. Some (g z)) (same_Some y x e)
get_map g (y ∷ xs) (suc k) x e = get_map g xs k x e

get_take : {A : Type 0} (n : ℕ) (xs : List A) (k : ℕ) (x : A) → slice_get (take n xs) k ≡ Some x → slice_get xs k ≡ Some x
get_take zero xs k x e = cc
get_take (suc n) [] k x e = e
get_take (suc n) (y ∷ xs) zero x e = e
get_take (suc n) (y ∷ xs) (suc k) x e = get_take n xs k x e

get_drop : {A : Type 0} (m : ℕ) (xs : List A) (k : ℕ) (x : A) → slice_get (drop m xs) k ≡ Some x → slice_get xs (m + k) ≡ Some x
get_drop zero xs k x e = let n : 0 + k ≡ k = omega arith in rw n e
get_drop (suc m) [] k x e = cc
get_drop (suc m) (y ∷ xs) k x e = let n : suc m + k ≡ suc (m + k) = omega arith in rw n (get_drop m xs k x e)

pub axis_is_that_alone : (ps : List Program) (i k : ℕ) (p : Program) (own : Signed) → All Runs ps → slice_get ps i ≡ Some p → slice_get (axes_alone p) k ≡ Some own →
    slice_get (axes_joined ps) (first_product ps i + k) ≡ Some (pad (place_in ps i p) own)
axis_is_that_alone ps i k p own fit e f =
    let joined = axes_joined ps in
    let here : slice_get (axes_at ps i p) k ≡ Some (pad (place_in ps i p) own) =
    ap (λ as'. slice_get as' k) (axes_are_those_alone ps i p fit e) ∙ get_map (pad (place_in ps i p)) (axes_alone p) k own f in
    get_drop (first_product ps i) joined k (pad (place_in ps i p) own)
    (get_take (products_in p.circuit.items) (drop (first_product ps i) joined) k (pad (place_in ps i p) own) here)

pub get_within : {A : Type 0} (xs : List A) (k : ℕ) → k < length xs → (x : A) × (slice_get xs k ≡ Some x)
get_within [] k l = absurd (omega arith)
get_within (y ∷ xs) zero l = (y, refl)
get_within (y ∷ xs) (suc k) l = get_within xs k (omega arith)

pub axis_comes_from_that_alone : (ps : List Program) (i k : ℕ) (p : Program) (axis : Signed) → All Runs ps → slice_get ps i ≡ Some p → k < products_in p.circuit.items → slice_get (axes_joined ps) (first_product ps i + k) ≡ Some axis →
    (own : Signed) × (slice_get (axes_alone p) k ≡ Some own) × (axis ≡ pad (place_in ps i p) own)
axis_comes_from_that_alone ps i k p axis fit e l f =
    let one = get_within (axes_alone p) k (omega (arith, l, length_axes fresh p.circuit.items p.outcomes)) in
    (one.0, one.1, same_Some axis (pad (place_in ps i p) one.0) (sym f ∙ axis_is_that_alone ps i k p one.0 fit e one.1))

-- ---- whose a product is
pub all_products : (q b h : ℕ) (cs : List Circuit) → products_in (joined_from q b h cs) ≡ products_of cs
all_products q b h [] = refl
all_products q b h (c ∷ cs) =
    let s = place_at q b h c cs in
    let others = joined_from (q + c.qubits) (b + bits_in c.registers) (h + c.hidden) cs in
    omega (
      arith,
      products-append (items_in s c.items) others,
      products_in_items s c.items,
      all_products (q + c.qubits) (b + bits_in c.registers) (h + c.hidden) cs,
      sum_by-cons (λ (c : Circuit). products_in c.items) c cs,
    )

whose : (cs : List Circuit) (n : ℕ) → n < products_of cs → (i : ℕ) × (k : ℕ) × (c : Circuit) × (slice_get cs i ≡ Some c) × (k < products_in c.items) × (n ≡ products_of (take i cs) + k)
whose [] n l = absurd (omega arith)
whose (c ∷ cs) n l = elim (low_or_high n (products_in c.items)) [
  | inl m ↦ let same : n ≡ products_of (take 0 (c ∷ cs)) + n = omega arith in (0, n, c, refl, m, same)
  | inr m ↦
      let rest = whose cs (n - products_in c.items) (omega (arith, l, m, sum_by-cons (λ (c : Circuit). products_in c.items) c cs)) in
      let same : n ≡ products_of (take (suc rest.0) (c ∷ cs)) + rest.1 = omega (arith, m, rest.5, sum_by-cons (λ (c : Circuit). products_in c.items) c (take rest.0 cs)) in
      (suc rest.0, rest.1, rest.2, rest.3, rest.4, same)
]

pub each_is_of_a_program : (cs : List Circuit) (n : ℕ) → n < products_in (joined_items cs) → (i : ℕ) × (k : ℕ) × (c : Circuit) × (slice_get cs i ≡ Some c) × (k < products_in c.items) × (n ≡ products_of (take i cs) + k)
each_is_of_a_program cs n l = whose cs n (omega (arith, l, all_products 0 0 (bits_of cs) cs))
