-- The circuit that is made from a number keeps the conditions of every call that takes a circuit.
use Rattle.std.proofs.Common.{ℕ, zero, suc, ◌+◌, ◌*◌, ◌%◌, ◌==◌, ◌<◌, ◌≤◌, nat_lt, cond, Bool, true, false, List, [], ◌∷◌, ◌++◌, length, All, refl, sym, subst, arith, inl, append_assoc, append-nil, codes}
use Rattle.std.proofs.lemmas.List.Elements.{All-nil, All-cons, All-from_recursion}
use Rattle.pauli_product.specs.declared.Letter.TheVariants.{X, Z}
use Rattle.pauli_product.specs.Signed.{OfLength}
use Rattle.patch_base.specs.Names.{is_word_byte}
use Rattle.source_model.specs.declared.Angle.TheVariants.{Eighth, Quarter}
use Rattle.source_model.specs.declared.Item.{Item}
use Rattle.source_model.specs.declared.Register.{Register}
use Rattle.source_model.specs.SourceRun.{axis_of}
use Rattle.source_model.specs.Circuits.{BitsBelow, HiddenInOrder, IsOneLine, ReadsWhole, WellFormed, kinds}
use Rattle.product_list.specs.Listable.{AxisHasLetter}
use Rattle.rotation_list.specs.Gates.{t_gate, s_gate, h_gate, controlled, measured}
use Rattle.rotation_list.specs.Generated.{draw, operation, operations, measurements, big_items, big_circuit}
use Rattle.rotation_list.proofs.OneLine.{IsOneLine-bytes}
use Rattle.rotation_list.proofs.Programs.{AllFit, axes_fit, bits_fit, both_fit, controlled_fits, letters_fit, measured_fits, reads_fit, turn_fits}

abbrev bits : List Register
bits = record { name = codes "c"; first = 0; size = 8 } ∷ []

abbrev Fit : List Item → Type 0
Fit is = AllFit 8 8 bits is

either_fits : (b : Bool) (is js : List Item) → Fit is → Fit js → Fit (cond b is js)
either_fits true is js h k = h
either_fits false is js h k = k

operation_fits : (a b c : ℕ) → Fit (operation a b c)
unfolding operation
operation_fits a b c =
    let u = b % 8 in
    let v = (u + 1 + c % 7) % 8 in
    let w : u < 8 = omega arith in
    let x : v < 8 = omega arith in
    let last = cond (a % 8 == 6) (controlled 8 X u v) (controlled 8 Z u v) in
    let fourth = cond (a % 8 == 5) (s_gate 8 false u) last in
    let third = cond (nat_lt (a % 8) 5) (h_gate 8 u) fourth in
    let second = cond (a % 8 == 2) (t_gate 8 true u) third in
    either_fits (nat_lt (a % 8) 2) (t_gate 8 false u) second (turn_fits 8 8 bits false u Z Eighth w refl, tt)
    (either_fits (a % 8 == 2) (t_gate 8 true u) third (turn_fits 8 8 bits true u Z Eighth w refl, tt)
    (either_fits (nat_lt (a % 8) 5) (h_gate 8 u) fourth (turn_fits 8 8 bits false u Z Quarter w refl, (turn_fits 8 8 bits false u X Quarter w refl, (turn_fits 8 8 bits false u Z Quarter w refl, tt)))
    (either_fits (a % 8 == 5) (s_gate 8 false u) last (turn_fits 8 8 bits false u Z Quarter w refl, tt)
    (either_fits (a % 8 == 6) (controlled 8 X u v) (controlled 8 Z u v) (controlled_fits 8 8 bits X u v w x refl) (controlled_fits 8 8 bits Z u v w x refl)))))

operations_fit : (n k : ℕ) → Fit (operations n k)
unfolding operations
operations_fit n zero = tt
operations_fit n (suc k) = both_fit 8 8 bits (operations n k) _ (operations_fit n k) (operation_fits (draw n (3 * k + 1)) (draw n (3 * k + 2)) (draw n (3 * k + 3)))

measurements_fit : (i : ℕ) → i ≤ 8 → Fit (measurements i)
unfolding measurements
measurements_fit zero few = tt
measurements_fit (suc i) few = both_fit 8 8 bits (measurements i) (measured 8 i i) (measurements_fit i (omega arith)) (measured_fits 8 8 bits i i (omega arith) (omega arith))

abbrev InOrder : List Item → Type 0
InOrder is = HiddenInOrder 8 8 8 is

either_order : (b : Bool) (is js ks : List Item) → InOrder (is ++ ks) → InOrder (js ++ ks) → InOrder (cond b is js ++ ks)
either_order true is js ks h k = h
either_order false is js ks h k = k

operation_order : (a b c : ℕ) (ks : List Item) → InOrder ks → InOrder (operation a b c ++ ks)
unfolding operation
operation_order a b c ks h =
    let u = b % 8 in
    let v = (u + 1 + c % 7) % 8 in
    let last = cond (a % 8 == 6) (controlled 8 X u v) (controlled 8 Z u v) in
    let fourth = cond (a % 8 == 5) (s_gate 8 false u) last in
    let third = cond (nat_lt (a % 8) 5) (h_gate 8 u) fourth in
    let second = cond (a % 8 == 2) (t_gate 8 true u) third in
    either_order (nat_lt (a % 8) 2) (t_gate 8 false u) second ks h
    (either_order (a % 8 == 2) (t_gate 8 true u) third ks h
    (either_order (nat_lt (a % 8) 5) (h_gate 8 u) fourth ks h
    (either_order (a % 8 == 5) (s_gate 8 false u) last ks h
    (either_order (a % 8 == 6) (controlled 8 X u v) (controlled 8 Z u v) ks h h))))

operations_order : (n k : ℕ) (ks : List Item) → InOrder ks → InOrder (operations n k ++ ks)
unfolding operations
operations_order n zero ks h = h
operations_order n (suc k) ks h =
    let next = operation (draw n (3 * k + 1)) (draw n (3 * k + 2)) (draw n (3 * k + 3)) in
    subst InOrder (sym (append_assoc (operations n k) next ks)) (operations_order n k (next ++ ks) (operation_order (draw n (3 * k + 1)) (draw n (3 * k + 2)) (draw n (3 * k + 3)) ks h))

measurements_order : (i : ℕ) (ks : List Item) → i ≤ 8 → InOrder ks → InOrder (measurements i ++ ks)
unfolding measurements
measurements_order zero ks few h = h
measurements_order (suc i) ks few h = subst InOrder (sym (append_assoc (measurements i) (measured 8 i i) ks)) (measurements_order i (measured 8 i i ++ ks) (omega arith) (inl (omega arith, h)))

all_order : (n : ℕ) → InOrder (big_items n)
unfolding big_items
all_order n = operations_order n n (measurements 8) (let none = measurements_order 8 [] (omega arith) refl in subst InOrder (append-nil (measurements 8)) none)

all_fit : (n : ℕ) → Fit (big_items n)
unfolding big_items
all_fit n = both_fit 8 8 bits (operations n n) (measurements 8) (operations_fit n n) (measurements_fit 8 (omega arith))

pub big_formed : (n : ℕ) → WellFormed (big_circuit n)
unfolding big_circuit
big_formed n = record {
  few_qubits = omega arith;
  few_registers = omega arith;
  axes_fit = All-from_recursion (λ i. OfLength 8 (axis_of i)) (big_items n) (axes_fit 8 8 bits (big_items n) (all_fit n));
  names_fit = All-cons (λ (r : Register). IsOneLine r.name) (record { name = codes "c"; first = 0; size = 8 }) [] (IsOneLine-bytes is_word_byte refl (codes "c") refl) (All-nil (λ (r : Register). IsOneLine r.name));
  firsts_run_on = (refl, tt);
  bits_fit = All-from_recursion (BitsBelow 8) (big_items n) (bits_fit 8 8 bits (big_items n) (all_fit n));
  reads_fit = All-from_recursion (ReadsWhole bits) (big_items n) (reads_fit 8 8 bits (big_items n) (all_fit n));
  hidden_in_order = all_order n;
}

-- each axis has a letter other than I
pub big_letters : (n : ℕ) → All AxisHasLetter (big_circuit n).items
unfolding big_circuit
big_letters n = All-from_recursion AxisHasLetter (big_items n) (letters_fit 8 8 bits (big_items n) (all_fit n))

-- ---- how many products

abbrev Few : ℕ → List Item → List Item → Type 0
Few m is ks = length (kinds (is ++ ks)) ≤ m + length (kinds ks)

either_few : (b : Bool) (m : ℕ) (is js ks : List Item) → Few m is ks → Few m js ks → Few m (cond b is js) ks
either_few true m is js ks h k = h
either_few false m is js ks h k = k

operation_few : (a b c : ℕ) (ks : List Item) → Few 1 (operation a b c) ks
unfolding operation
operation_few a b c ks =
    let u = b % 8 in
    let v = (u + 1 + c % 7) % 8 in
    let last = cond (a % 8 == 6) (controlled 8 X u v) (controlled 8 Z u v) in
    let fourth = cond (a % 8 == 5) (s_gate 8 false u) last in
    let third = cond (nat_lt (a % 8) 5) (h_gate 8 u) fourth in
    let second = cond (a % 8 == 2) (t_gate 8 true u) third in
    let none : length (kinds ks) ≤ 1 + length (kinds ks) = omega arith in
    let one : suc (length (kinds ks)) ≤ 1 + length (kinds ks) = omega arith in
    either_few (nat_lt (a % 8) 2) 1 (t_gate 8 false u) second ks one
    (either_few (a % 8 == 2) 1 (t_gate 8 true u) third ks one
    (either_few (nat_lt (a % 8) 5) 1 (h_gate 8 u) fourth ks none
    (either_few (a % 8 == 5) 1 (s_gate 8 false u) last ks none
    (either_few (a % 8 == 6) 1 (controlled 8 X u v) (controlled 8 Z u v) ks none none))))

operations_few : (n k : ℕ) (ks : List Item) → Few k (operations n k) ks
unfolding operations
operations_few n zero ks = omega arith
operations_few n (suc k) ks =
    let next = operation (draw n (3 * k + 1)) (draw n (3 * k + 2)) (draw n (3 * k + 3)) in
    let before = operations_few n k (next ++ ks) in
    let one = operation_few (draw n (3 * k + 1)) (draw n (3 * k + 2)) (draw n (3 * k + 3)) ks in
    let P : List Item → Type 0 = λ is. length (kinds is) ≤ suc k + length (kinds ks) in
    subst P (sym (append_assoc (operations n k) next ks)) (omega (arith, before, one))

measurements_few : (i : ℕ) (ks : List Item) → Few i (measurements i) ks
unfolding measurements
measurements_few zero ks = omega arith
measurements_few (suc i) ks =
    let before = measurements_few i (measured 8 i i ++ ks) in
    let P : List Item → Type 0 = λ is. length (kinds is) ≤ suc i + length (kinds ks) in
    subst P (sym (append_assoc (measurements i) (measured 8 i i) ks)) (omega (arith, before))

pub big_few : (n : ℕ) → length (kinds (big_circuit n).items) ≤ n + 8
unfolding big_circuit big_items
big_few n =
    let all = operations_few n n (measurements 8) in
    let last = measurements_few 8 [] in
    let P : List Item → Type 0 = λ is. length (kinds is) ≤ 8 + length (kinds []) in
    let eight : length (kinds (measurements 8)) ≤ 8 + length (kinds []) = subst P (append-nil (measurements 8)) last in
    omega (arith, all, eight)
