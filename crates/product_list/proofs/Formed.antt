-- The circuit of a product list keeps the conditions of every call that takes a circuit.
use Rattle.std.proofs.Common.{◌≡◌, ◌≢◌, ℕ, suc, ◌+◌, ◌≤◌, ◌==◌, ◌&&◌, ◌||◌, nat_lt, nat_le, not, Bool, true, false, IsTrue, List, [], ◌∷◌, ◌++◌, length, Option, Some, None, Result, Ok, Err, All, refl, sym, ◌∙◌, ap, subst, arith, inl, inr, if◌then◌else◌, is_some, add-zero, codes, decimal, drop, IfOk, ◌<◌, ◌^◌}
use Rattle.std.specs.Prelude.{Any, map, slice_index_or}
use Rattle.std.specs.List.{list_all, list_any, AllByRecursion as ByRecursion}
use Rattle.std.specs.Str.{bytes_eq}
use Rattle.std.proofs.lemmas.Bool.{and_parts, leb-false, ltb-false, ltb-true, eqb-true, eqb-false, not-false, or_parts}
use Rattle.std.proofs.lemmas.List.{length-append}
use Rattle.std.proofs.lemmas.List.Sums.{sum_by-cons}
use Rattle.std.proofs.lemmas.List.Elements.{All-nil, All-cons, All-head, All-tail, All-append, All-from_recursion}
use Rattle.pauli_product.specs.declared.Letter.TheVariants.{I, X, Y, Z}
use Rattle.pauli_product.specs.Signed.{Signed, OfLength}
use Rattle.qasm_lex.specs.declared.fault.FaultKind.{FaultKind}
use Rattle.qasm_lex.specs.declared.fault.FaultKind.TheVariants.{TooLong, Syntax, Declared, Index, Sizes, TooMany}
use Rattle.qasm_lex.specs.declared.fault.CircuitFault.{CircuitFault}
use Rattle.qasm_lex.specs.declared.fault.CircuitFault.TheVariants as fault
use Rattle.qasm_lex.specs.Tokens.{is_whole, Gives}
use Rattle.std.specs.Option.{option_map}
use Rattle.patch_base.specs.Texts.{lines, words}
use Rattle.patch_base.specs.Names.{IsName, is_name, is_word_byte, is_keyword, begins_as_name}
use Rattle.product_list.specs.declared.line.Form.{Form}
use Rattle.product_list.proofs.Ruling.{at_ok}
use Rattle.product_list.specs.Listable.{AreDeclared, AxisHasLetter, HasSmallValue, IsListable, IsNext}
use Rattle.product_list.proofs.Declared.{declared_more}
use Rattle.product_list.specs.declared.line.Form.TheVariants as forms
use Rattle.source_model.specs.Used.{acts, acts_at}
use Rattle.source_model.specs.declared.Angle.TheVariants.{Eighth, Quarter, Half}
use Rattle.source_model.specs.declared.Circuit.{Circuit}
use Rattle.source_model.specs.declared.Item.{Item}
use Rattle.source_model.specs.declared.Item.TheVariants as item
use Rattle.source_model.specs.declared.Register.{Register}
use Rattle.source_model.specs.SourceRun.{axis_of}
use Rattle.source_model.specs.Circuits.{BitsBelow, FirstsRunOn, HiddenInOrder, IsOneLine, ReadsWhole, WellFormed, bits_in, kinds}
use Rattle.product_list.specs.ListText.{Ending, rotation, measurement, hidden, settled, reset, named, unless, in_register, item_for, hidden_after, with_item, with_product, with_register, with_line, Line, register, product, value_of, is_letter, letter_of, is_axis, axis_in_text as axis_spelled, form_of, name_and_number, at_end, ending_of, product_of, formed, line_of, at_line, is_passed, with_form, with_text, and_then, with_lines, Header, header_of, version_of, number_alone, with_version, few_qubits, bare, list_of, list_circuit}

other_byte : (f : ℕ → Bool) (b n : ℕ) → IsTrue (f b) → f n ≡ false → b ≢ n
other_byte f b n h fails e = let g = ap f e in cc

one_line_bytes : (f : ℕ → Bool) → f 10 ≡ false → (bs : List ℕ) → IsTrue (list_all f bs) → ByRecursion (λ b. b ≢ 10) bs
one_line_bytes f feed [] h = tt
one_line_bytes f feed (b ∷ bs) h = let p = and_parts (f b) (list_all f bs) h in (other_byte f b 10 p.0 feed, one_line_bytes f feed bs p.1)

pub IsOneLine-bytes : (f : ℕ → Bool) → f 10 ≡ false → (w : List ℕ) → IsTrue (list_all f w) → IsOneLine w
IsOneLine-bytes f feed w h = All-from_recursion (λ c. c ≢ 10) w (one_line_bytes f feed w h)

IsOneLine-name : (w : List ℕ) → IsName w → IsOneLine w
unfolding is_name
IsOneLine-name w h =
    IsOneLine-bytes is_word_byte refl w (and_parts (begins_as_name w) (list_all is_word_byte w) (and_parts (begins_as_name w && list_all is_word_byte w) (not (is_keyword w)) h).0).1

firsts_more : (before : ℕ) (rs : List Register) (r : Register) → FirstsRunOn before rs → r.first ≡ before + bits_in rs → FirstsRunOn before (rs ++ r ∷ [])
firsts_more before [] r h e = (e ∙ add-zero before, tt)
firsts_more before (x ∷ xs) r h e = (h.0, firsts_more (before + x.size) xs r h.1 (let s = sum_by-cons (λ y. y.size) x xs in omega arith))

-- a register that is found by its name lies within the bits
found_step : (before : ℕ) (x : Register) (xs : List Register) (name : List ℕ) (r : Register) → FirstsRunOn before (x ∷ xs) → (named xs name ≡ Some r → r.first + r.size ≤ before + x.size + bits_in xs) → (b : Bool) → (if b then Some x else named xs name) ≡ Some r → r.first + r.size ≤ before + bits_in (x ∷ xs)
found_step before x xs name r h rest true e =
    let same : x ≡ r = cc in
    let s = sum_by-cons (λ y. y.size) x xs in
    let P : Register → Type 0 = λ y. y.first + y.size ≤ before + bits_in (x ∷ xs) in
    subst P same (let f = h.0 in omega arith)
found_step before x xs name r h rest false e = let k = rest e in let s = sum_by-cons (λ y. y.size) x xs in omega arith

found_within : (before : ℕ) (rs : List Register) (name : List ℕ) (r : Register) → FirstsRunOn before rs → named rs name ≡ Some r → r.first + r.size ≤ before + bits_in rs
found_within before [] name r h e = absurd (cc)
found_within before (x ∷ xs) name r h e = found_step before x xs name r h (found_within (before + x.size) xs name r h.1) (bytes_eq x.name name) e

any_step : (x : Register) (xs : List Register) (name : List ℕ) (r : Register) → (named xs name ≡ Some r → Any (λ y. (y.first ≡ r.first) × (y.size ≡ r.size)) xs) → (b : Bool) → (if b then Some x else named xs name) ≡ Some r → Any (λ y. (y.first ≡ r.first) × (y.size ≡ r.size)) (x ∷ xs)
any_step x xs name r rest true e = let same : x ≡ r = cc in (0, x, omega arith, refl, (ap (λ y. y.first) same, ap (λ y. y.size) same))
any_step x xs name r rest false e = let (k, y, l, g, p) = rest e in (suc k, y, omega arith, g, p)

found_any : (rs : List Register) (name : List ℕ) (r : Register) → named rs name ≡ Some r → Any (λ x. (x.first ≡ r.first) × (x.size ≡ r.size)) rs
found_any [] name r e = absurd (cc)
found_any (x ∷ xs) name r e = any_step x xs name r (λ f. found_any xs name r f) (bytes_eq x.name name) e

hidden_more : (bits next end end' : ℕ) (is : List Item) (i : Item) → HiddenInOrder bits next end is → HiddenInOrder bits end end' (i ∷ []) → HiddenInOrder bits next end' (is ++ i ∷ [])
hidden_more bits next end end' [] i h k = let P : ℕ → Type 0 = λ n. HiddenInOrder bits n end' (i ∷ []) in subst P (sym h) k
hidden_more bits next end end' (item.Turn axis angle ∷ is) i h k = hidden_more bits next end end' is i h k
hidden_more bits next end end' (item.Measure axis bit ∷ is) i (inl h) k = inl (h.0, hidden_more bits next end end' is i h.1 k)
hidden_more bits next end end' (item.Measure axis bit ∷ is) i (inr h) k = inr (h.0, hidden_more bits (next + 1) end end' is i h.1 k)
hidden_more bits next end end' (item.If axis first size value ∷ is) i h k = (h.0, hidden_more bits next end end' is i h.1 k)

wider : (n m : ℕ) (i : Item) → n ≤ m → BitsBelow n i → BitsBelow m i
wider n m (item.Turn axis angle) l h = tt
wider n m (item.Measure axis bit) l h = omega arith
wider n m (item.If axis first size value) l h = omega arith

all_wider : (n m : ℕ) (is : List Item) → n ≤ m → All (BitsBelow n) is → ByRecursion (BitsBelow m) is
all_wider n m [] l h = tt
all_wider n m (i ∷ is) l h = (wider n m i l (All-head (BitsBelow n) i is h), all_wider n m is l (All-tail (BitsBelow n) i is h))

all_more : {X : Type 0} (P : X → Type 0) (xs : List X) (x : X) → All P xs → P x → All P (xs ++ x ∷ [])
all_more P xs x h k = All-append P xs (x ∷ []) h (All-cons P x [] k (All-nil P))

-- one more item
item_more : (c : Circuit) (i : Item) (high : ℕ) → WellFormed c → OfLength c.qubits (axis_of i) → BitsBelow (bits_in c.registers + high) i → ReadsWhole c.registers i → c.hidden ≤ high → HiddenInOrder (bits_in c.registers) (bits_in c.registers + c.hidden) (bits_in c.registers + high) (i ∷ []) → WellFormed (record c { items = c.items ++ i ∷ []; hidden = high })
item_more c i high h long below reads more order = record {
  few_qubits = h.few_qubits;
  few_registers = h.few_registers;
  axes_fit = all_more (λ j. OfLength c.qubits (axis_of j)) c.items i h.axes_fit long;
  names_fit = h.names_fit;
  firsts_run_on = h.firsts_run_on;
  bits_fit = all_more (BitsBelow (bits_in c.registers + high)) c.items i (All-from_recursion (BitsBelow (bits_in c.registers + high)) c.items (all_wider (bits_in c.registers + c.hidden) (bits_in c.registers + high) c.items (omega arith) h.bits_fit)) below;
  reads_fit = all_more (ReadsWhole c.registers) c.items i h.reads_fit reads;
  hidden_in_order = hidden_more (bits_in c.registers) (bits_in c.registers) (bits_in c.registers + c.hidden) (bits_in c.registers + high) c.items i h.hidden_in_order order;
}

-- ---- the item of a product
unless_ok : {X : Type 0} (b : Bool) (kind : FaultKind) (next : Result X FaultKind) (x : X) → unless b kind next ≡ Ok x → (b ≡ false) × (next ≡ Ok x)
unless_ok true kind next x e = absurd (cc)
unless_ok false kind next x e = (refl, e)

same_ok : {X E : Type 0} (r : Result X E) (x y : X) → r ≡ Ok x → r ≡ Ok y → x ≡ y
same_ok r x y d e = let k = sym d ∙ e in cc

-- the circuit with this item
with_one : Circuit → Ending → Item → Circuit
with_one c e i = record c { items = c.items ++ i ∷ []; hidden = hidden_after c.hidden e }

measured_more : (c : Circuit) (axis : Signed) (name : List ℕ) (index : ℕ) (i : Item) → WellFormed c → OfLength c.qubits axis → (o : Option Register) → named c.registers name ≡ o → in_register o (λ r. unless (nat_le r.size index) Index (Ok (item.Measure axis (r.first + index)))) ≡ Ok i → WellFormed (with_one c (measurement name index) i)
unfolding with_one
measured_more c axis name index i h long None f e = absurd (cc)
measured_more c axis name index i h long (Some r) f e =
    let u = unless_ok (nat_le r.size index) Index (Ok (item.Measure axis (r.first + index))) i e in
    let below = leb-false r.size index u.0 in
    let within = found_within 0 c.registers name r h.firsts_run_on f in
    let P : Item → Type 0 = λ j. WellFormed (record c { items = c.items ++ j ∷ []; hidden = c.hidden }) in
    subst P (same_ok _ _ _ refl u.1) (item_more c (item.Measure axis (r.first + index)) c.hidden h long (omega arith) tt (omega arith) (inl (omega arith, refl)))

settled_more : (c : Circuit) (axis : Signed) (name : List ℕ) (value : ℕ) (i : Item) → WellFormed c → OfLength c.qubits axis → (o : Option Register) → named c.registers name ≡ o → in_register o (λ r. Ok (item.If axis r.first r.size value)) ≡ Ok i → WellFormed (with_one c (settled name value) i)
unfolding with_one
settled_more c axis name value i h long None f e = absurd (cc)
settled_more c axis name value i h long (Some r) f e =
    let within = found_within 0 c.registers name r h.firsts_run_on f in
    let P : Item → Type 0 = λ j. WellFormed (record c { items = c.items ++ j ∷ []; hidden = c.hidden }) in
    subst P (same_ok _ _ _ refl e) (item_more c (item.If axis r.first r.size value) c.hidden h long (omega arith) (inl (found_any c.registers name r f)) (omega arith) (omega arith, refl))

item_formed : (c : Circuit) (axis : Signed) (ending : Ending) (i : Item) → WellFormed c → OfLength c.qubits axis → item_for c axis ending ≡ Ok i → WellFormed (with_one c ending i)
unfolding with_one item_for
item_formed c axis rotation i h long e =
    let P : Item → Type 0 = λ j. WellFormed (record c { items = c.items ++ j ∷ []; hidden = c.hidden }) in
    subst P (same_ok _ _ _ refl e) (item_more c (item.Turn axis Eighth) c.hidden h long tt tt (omega arith) refl)
item_formed c axis (measurement name index) i h long e = measured_more c axis name index i h long (named c.registers name) refl e
item_formed c axis hidden i h long e =
    let P : Item → Type 0 = λ j. WellFormed (record c { items = c.items ++ j ∷ []; hidden = c.hidden + 1 }) in
    subst P (same_ok _ _ _ refl e) (item_more c (item.Measure axis (bits_in c.registers + c.hidden)) (c.hidden + 1) h long (omega arith) tt (omega arith) (inr (refl, omega arith)))
item_formed c axis (settled name value) i h long e = settled_more c axis name value i h long (named c.registers name) refl e
item_formed c axis (reset number) i h long e =
    let u = unless_ok (nat_le c.hidden number) Index (Ok (item.If axis (bits_in c.registers + number) 1 1)) i e in
    let below = leb-false c.hidden number u.0 in
    let P : Item → Type 0 = λ j. WellFormed (record c { items = c.items ++ j ∷ []; hidden = c.hidden }) in
    subst P (same_ok _ _ _ refl u.1) (item_more c (item.If axis (bits_in c.registers + number) 1 1) c.hidden h long (omega arith) (inr (omega arith, refl, refl)) (omega arith) (omega arith, refl))

product_step : (c d : Circuit) (ending : Ending) (r : Result Item FaultKind) → ((i : Item) → r ≡ Ok i → WellFormed (with_one c ending i)) → with_item c ending r ≡ Ok d → WellFormed d
unfolding with_one
product_step c d ending (Ok i) h e = subst WellFormed (same_ok _ _ _ refl e) (h i refl)
product_step c d ending (Err kind) h e = absurd (cc)

product_formed : (c d : Circuit) (axis : Signed) (ending : Ending) → WellFormed c → OfLength c.qubits axis → with_product c axis ending ≡ Ok d → WellFormed d
unfolding with_product
product_formed c d axis ending h long e = product_step c d ending (item_for c axis ending) (λ i f. item_formed c axis ending i h long f) e

-- ---- registers
no_items : (items : List Item) → length items ≡ 0 → items ≡ []
no_items [] e = refl
no_items (i ∷ is) e = absurd (omega arith)

register_formed : (c d : Circuit) (name : List ℕ) (size : ℕ) → WellFormed c → IsOneLine name → with_register c name size ≡ Ok d → WellFormed d
unfolding with_register
register_formed c d name size h one e =
    let r : Register = record { name = name; first = bits_in c.registers; size = size } in
    let made : Circuit = record c { registers = c.registers ++ r ∷ [] } in
    let a = unless_ok (not (length c.items == 0)) Syntax _ d e in
    let b = unless_ok (nat_le 64 (length c.registers) || nat_lt 16384 (bits_in c.registers + size)) TooMany _ d a.1 in
    let f = unless_ok (size == 0) Sizes _ d b.1 in
    let g = unless_ok (is_some (named c.registers name)) Declared (Ok made) d f.1 in
    let none : c.items ≡ [] = no_items c.items (eqb-true (length c.items) 0 (not-false (length c.items == 0) a.0)) in
    let few = leb-false 64 (length c.registers) (or_parts (nat_le 64 (length c.registers)) (nat_lt 16384 (bits_in c.registers + size)) b.0).0 in
    let longer = length-append c.registers (r ∷ []) in
    let P : List Item → Type 0 = λ is. HiddenInOrder (bits_in c.registers) (bits_in c.registers) (bits_in c.registers + c.hidden) is in
    let plain : bits_in c.registers ≡ bits_in c.registers + c.hidden = subst P none h.hidden_in_order in
    let A : List Item → Type 0 = λ is. All (BitsBelow (bits_in (c.registers ++ r ∷ []) + c.hidden)) is in
    let B : List Item → Type 0 = λ is. All (ReadsWhole (c.registers ++ r ∷ [])) is in
    let D : List Item → Type 0 = λ is. HiddenInOrder (bits_in (c.registers ++ r ∷ [])) (bits_in (c.registers ++ r ∷ [])) (bits_in (c.registers ++ r ∷ []) + c.hidden) is in
    subst WellFormed (same_ok _ _ _ refl g.1) (record {
      few_qubits = h.few_qubits;
      few_registers = omega arith;
      axes_fit = h.axes_fit;
      names_fit = all_more (λ x. IsOneLine x.name) c.registers r h.names_fit one;
      firsts_run_on = firsts_more 0 c.registers r h.firsts_run_on (omega arith);
      bits_fit = subst A (sym none) (All-nil (BitsBelow (bits_in (c.registers ++ r ∷ []) + c.hidden)));
      reads_fit = subst B (sym none) (All-nil (ReadsWhole (c.registers ++ r ∷ [])));
      hidden_in_order = subst D (sym none) (omega arith);
    })

-- ---- products and axes
-- a circuit that is read from a list so far: few products, about axes that have a letter other than I, and registers that a list declares
pub record Kept (c : Circuit) : Type 0 where
  pub formed : WellFormed c
  pub few : length c.items ≤ 16384
  pub lettered : All AxisHasLetter c.items
  pub declared : AreDeclared [] c.registers
  pub small : All HasSmallValue c.items

axis_kept : (c : Circuit) (axis : Signed) (ending : Ending) (i : Item) → item_for c axis ending ≡ Ok i → axis ≡ axis_of i
unfolding item_for
axis_kept c axis rotation i e = ap axis_of (same_ok _ _ _ refl e)
axis_kept c axis (measurement name index) i e = in_named (named c.registers name) e
  where
    in_named : (o : Option Register) → in_register o (λ r. unless (nat_le r.size index) Index (Ok (item.Measure axis (r.first + index)))) ≡ Ok i → axis ≡ axis_of i
    in_named None f = absurd (cc)
    in_named (Some r) f = ap axis_of (same_ok _ _ _ refl (unless_ok (nat_le r.size index) Index (Ok (item.Measure axis (r.first + index))) i f).1)
axis_kept c axis hidden i e = ap axis_of (same_ok _ _ _ refl e)
axis_kept c axis (settled name value) i e = in_named (named c.registers name) e
  where
    in_named : (o : Option Register) → in_register o (λ r. Ok (item.If axis r.first r.size value)) ≡ Ok i → axis ≡ axis_of i
    in_named None f = absurd (cc)
    in_named (Some r) f = ap axis_of (same_ok _ _ _ refl f)
axis_kept c axis (reset number) i e = ap axis_of (same_ok _ _ _ refl (unless_ok (nat_le c.hidden number) Index (Ok (item.If axis (bits_in c.registers + number) 1 1)) i e).1)

-- the letters of an axis
HasOther : Signed → Type 0
HasOther axis = (q : ℕ) × IsTrue (acts_at axis q)

-- the value after an axis
SmallEnding : Ending → Type 0
SmallEnding rotation = Unit {0}
SmallEnding (measurement name index) = Unit {0}
SmallEnding hidden = Unit {0}
SmallEnding (settled name value) = value < 2 ^ 32
SmallEnding (reset number) = Unit {0}

value_kept : (c : Circuit) (axis : Signed) (ending : Ending) (i : Item) → SmallEnding ending → item_for c axis ending ≡ Ok i → HasSmallValue i
unfolding item_for SmallEnding
value_kept c axis rotation i h e = subst HasSmallValue (same_ok _ _ _ refl e) tt
value_kept c axis (measurement name index) i h e = in_named (named c.registers name) e
  where
    in_named : (o : Option Register) → in_register o (λ r. unless (nat_le r.size index) Index (Ok (item.Measure axis (r.first + index)))) ≡ Ok i → HasSmallValue i
    in_named None f = absurd (cc)
    in_named (Some r) f = subst HasSmallValue (same_ok _ _ _ refl (unless_ok (nat_le r.size index) Index (Ok (item.Measure axis (r.first + index))) i f).1) tt
value_kept c axis hidden i h e = subst HasSmallValue (same_ok _ _ _ refl e) tt
value_kept c axis (settled name value) i h e = in_named (named c.registers name) e
  where
    in_named : (o : Option Register) → in_register o (λ r. Ok (item.If axis r.first r.size value)) ≡ Ok i → HasSmallValue i
    in_named None f = absurd (cc)
    in_named (Some r) f = subst HasSmallValue (same_ok _ _ _ refl f) h
value_kept c axis (reset number) i h e = subst HasSmallValue (same_ok _ _ _ refl (unless_ok (nat_le c.hidden number) Index (Ok (item.If axis (bits_in c.registers + number) 1 1)) i e).1) (omega arith)

-- what an item is, by the axis and what stands after it
record IsKeptItem (axis : Signed) (i : Item) : Type 0 where
  same : axis ≡ axis_of i
  small : HasSmallValue i

-- what one more item keeps
record HasMore (c d : Circuit) : Type 0 where
  few : length d.items ≤ 16384
  lettered : All AxisHasLetter d.items
  declared : AreDeclared [] d.registers
  small : All HasSmallValue d.items

item_kept : (c d : Circuit) (axis : Signed) (ending : Ending) (r : Result Item FaultKind) → length c.items < 16384 → Kept c → HasOther axis → ((i : Item) → r ≡ Ok i → IsKeptItem axis i) → with_item c ending r ≡ Ok d → HasMore c d
unfolding HasOther
item_kept c d axis ending (Ok i) few h other same e =
    let made : Circuit = record c { items = c.items ++ i ∷ []; hidden = hidden_after c.hidden ending } in
    let is : made ≡ d = same_ok _ _ _ refl e in
    let P : Signed → Type 0 = λ a. (q : ℕ) × IsTrue (acts_at a q) in
    let more = length-append c.items (i ∷ []) in
    subst (HasMore c) is (record {
      few = omega arith;
      lettered = all_more AxisHasLetter c.items i h.lettered (subst P (same i refl).same other);
      declared = h.declared;
      small = all_more HasSmallValue c.items i h.small (same i refl).small;
    })
item_kept c d axis ending (Err kind) few h other same e = absurd (cc)

-- ---- lines and texts
pub HasName : Line → Type 0
HasName (register name size) = IsTrue (is_name name)
HasName (product axis ending) = HasOther axis × SmallEnding ending

no_register : (o : Option Register) → is_some o ≡ false → o ≡ None
no_register None e = refl
no_register (Some r) e = absurd (cc)

line_formed : (c d : Circuit) (l : Line) → Kept c → HasName l → with_line c l ≡ Ok d → Kept d
unfolding with_line with_product with_register HasName
line_formed c d (register name size) h n e =
    let r : Register = record { name = name; first = bits_in c.registers; size = size } in
    let a = unless_ok (not (length c.items == 0)) Syntax _ d e in
    let b = unless_ok (nat_le 64 (length c.registers) || nat_lt 16384 (bits_in c.registers + size)) TooMany _ d a.1 in
    let f = unless_ok (size == 0) Sizes _ d b.1 in
    let made : Circuit = record c { registers = c.registers ++ r ∷ [] } in
    let g = unless_ok (is_some (named c.registers name)) Declared (Ok made) d f.1 in
    let is : made ≡ d = same_ok _ _ _ refl g.1 in
    let limits = or_parts (nat_le 64 (length c.registers)) (nat_lt 16384 (bits_in c.registers + size)) b.0 in
    let next : IsNext c.registers r = record {
      name = n;
      few = leb-false 64 (length c.registers) limits.0;
      bits = ltb-false 16384 (bits_in c.registers + size) limits.1;
      some = (let other = eqb-false size 0 f.0 in omega arith);
      apart = no_register (named c.registers name) g.0;
      first = refl;
    } in
    let P : Circuit → Type 0 = λ x. length x.items ≤ 16384 in
    let Q : Circuit → Type 0 = λ x. All AxisHasLetter x.items in
    let R : Circuit → Type 0 = λ x. AreDeclared [] x.registers in
    let S : Circuit → Type 0 = λ x. All HasSmallValue x.items in
    record {
      formed = register_formed c d name size h.formed (IsOneLine-name name n) e;
      few = subst P is h.few;
      lettered = subst Q is h.lettered;
      declared = subst R is (declared_more [] c.registers r h.declared next);
      small = subst S is h.small;
    }
line_formed c d (product axis ending) h n e =
    let a = unless_ok (nat_le 16384 (length c.items)) TooMany _ d e in
    let b = unless_ok (not (length axis.letters == c.qubits)) Sizes _ d a.1 in
    let kept = item_kept c d axis ending (item_for c axis ending) (leb-false 16384 (length c.items) a.0) h n.0 (λ i f. record { same = axis_kept c axis ending i f; small = value_kept c axis ending i n.1 f }) b.1 in
    record {
      formed = product_formed c d axis ending h.formed (eqb-true (length axis.letters) c.qubits (not-false (length axis.letters == c.qubits) b.0)) b.1;
      few = kept.few;
      lettered = kept.lettered;
      declared = kept.declared;
      small = kept.small;
    }

-- the letters of a text, one of which isn't I
letter_acts : (bs : List ℕ) → IsTrue (list_all is_letter bs) → IsTrue (list_any (λ c. not (c == 73)) bs) → (q : ℕ) × IsTrue (acts (slice_index_or (map letter_of bs) q I))
letter_acts [] h k = absurd (let t : false ≡ true = k in cc)
letter_acts (b ∷ bs) h k = by_first (b == 73) refl (and_parts (is_letter b) (list_all is_letter bs) h) k (letter_acts bs)
  where
    acting : (b == 73) ≡ false → (x y z : Bool) → (b == 88) ≡ x → (b == 89) ≡ y → (b == 90) ≡ z → (false || x || y || z) ≡ true → acts (if x then X else if y then Y else if z then Z else I) ≡ true
    acting n true y z d e f g = refl
    acting n false true z d e f g = refl
    acting n false false true d e f g = refl
    acting n false false false d e f g = absurd (cc)

    by_first : (i : Bool) → (b == 73) ≡ i → IsTrue (is_letter b) × IsTrue (list_all is_letter bs) → (not (b == 73) || list_any (λ c. not (c == 73)) bs) ≡ true → (IsTrue (list_all is_letter bs) → IsTrue (list_any (λ c. not (c == 73)) bs) → (q : ℕ) × IsTrue (acts (slice_index_or (map letter_of bs) q I))) → (q : ℕ) × IsTrue (acts (slice_index_or (map letter_of (b ∷ bs)) q I))
    by_first true e p any rest =
        let others : list_any (λ c. not (c == 73)) bs ≡ true = rw e at any in
        let found = rest p.1 others in
        (suc found.0, found.1)
    by_first false e p any rest =
        let own : (false || (b == 88) || (b == 89) || (b == 90)) ≡ true = rw e at p.0 in
        (0, acting e (b == 88) (b == 89) (b == 90) refl refl refl own)

axis_other : (w : List ℕ) → is_axis w ≡ true → HasOther (axis_spelled w)
unfolding is_axis axis_spelled HasOther
axis_other [] h = absurd (cc)
axis_other (b ∷ bs) h =
    let first = and_parts ((b == 43 || b == 45) && list_all is_letter bs) (list_any (λ c. not (c == 73)) bs) h in
    letter_acts bs (and_parts (b == 43 || b == 45) (list_all is_letter bs) first.0).1 first.1

pair_step : (w : List ℕ) (n : ℕ) (a b : Bool) (p : List ℕ × ℕ) → (if a && b then Some (w, n) else None) ≡ Some p → (a ≡ true) × (w ≡ p.0)
pair_step w n true true p e = (refl, let same : (w, n) ≡ p = pair_same (w, n) p e in ap (λ q. q.0) same)
  where
    pair_same : (x y : List ℕ × ℕ) → Some x ≡ Some y → x ≡ y
    pair_same x y e = cc
pair_step w n true false p e = absurd (cc)
pair_step w n false b p e = absurd (cc)

pair_named : (ws : List (List ℕ)) (p : List ℕ × ℕ) → name_and_number ws ≡ Some p → IsTrue (is_name p.0)
unfolding name_and_number
pair_named [] p e = absurd (cc)
pair_named (w ∷ []) p e = absurd (cc)
pair_named (w ∷ v ∷ []) p e = let s = pair_step w (value_of v) (is_name w) (is_whole v) p e in let P : List ℕ → Type 0 = λ x. is_name x ≡ true in subst P s.1 s.0
pair_named (w ∷ v ∷ u ∷ us) p e = absurd (cc)

some_same : {X : Type 0} (o : Option X) (x y : X) → o ≡ Some x → o ≡ Some y → x ≡ y
some_same o x y d e = let k = sym d ∙ e in cc

register_named : (o : Option (List ℕ × ℕ)) (l : Line) → ((p : List ℕ × ℕ) → o ≡ Some p → IsTrue (is_name p.0)) → option_map (λ p. register p.0 p.1) o ≡ Some l → HasName l
unfolding HasName
register_named None l h e = absurd (cc)
register_named (Some p) l h e = subst HasName (some_same _ _ _ refl e) (h p refl)

-- ---- values

pub word_small : (v : List ℕ) → is_whole v ≡ true → value_of v < 2 ^ 32
unfolding is_whole
word_small v h = let p = and_parts (nat_lt (value_of v) 4294967296) (bytes_eq v (decimal (value_of v))) h in let l = ltb-true (value_of v) 4294967296 p.0 in omega arith

pair_small : (ws : List (List ℕ)) (p : List ℕ × ℕ) → name_and_number ws ≡ Some p → p.1 < 2 ^ 32
unfolding name_and_number
pair_small [] p e = absurd (cc)
pair_small (w ∷ []) p e = absurd (cc)
pair_small (w ∷ v ∷ []) p e = by_tests (is_name w) (is_whole v) refl e
  where
    by_tests : (a b : Bool) → is_whole v ≡ b → (if a && b then Some (w, value_of v) else None) ≡ Some p → p.1 < 2 ^ 32
    by_tests true true d f = let same : (w, value_of v) ≡ p = some_same _ _ _ refl f in let P : (List ℕ × ℕ) → Type 0 = λ q. q.1 < 2 ^ 32 in subst P same (word_small v d)
    by_tests true false d f = absurd (cc)
    by_tests false b d f = absurd (cc)
pair_small (w ∷ v ∷ u ∷ us) p e = absurd (cc)

at_end_small : (ws : List (List ℕ)) (e x : Ending) → SmallEnding e → at_end ws e ≡ Some x → SmallEnding x
unfolding at_end
at_end_small [] e x h f = subst SmallEnding (some_same _ _ _ refl f) h
at_end_small (w ∷ ws) e x h f = absurd (cc)

mapped_small : {P : Type 0} (g : P → Ending) (o : Option P) (x : Ending) → ((p : P) → o ≡ Some p → SmallEnding (g p)) → option_map g o ≡ Some x → SmallEnding x
mapped_small g None x h e = absurd (cc)
mapped_small g (Some p) x h e = subst SmallEnding (some_same _ _ _ refl e) (h p refl)

ending_small : (f : Form) (ws : List (List ℕ)) (x : Ending) → ending_of f ws ≡ Some x → SmallEnding x
unfolding ending_of SmallEnding
ending_small forms.Rotation ws x e = at_end_small ws rotation x tt e
ending_small forms.Measurement ws x e = mapped_small (λ p. measurement p.0 p.1) (name_and_number ws) x (λ p d. tt) e
ending_small forms.Hidden ws x e = at_end_small ws hidden x tt e
ending_small forms.Settled ws x e = mapped_small (λ p. settled p.0 p.1) (name_and_number ws) x (λ p d. pair_small ws p d) e
ending_small forms.Reset ws x e = mapped_small reset (number_alone ws) x (λ p d. tt) e

product_named : (f : Form) (ws : List (List ℕ)) (l : Line) → product_of f ws ≡ Some l → HasName l
unfolding product_of HasName
product_named f [] l e = absurd (cc)
product_named f (w ∷ ws) l e = go (is_axis w) (ending_of f ws) refl refl e
  where
    go : (b : Bool) (o : Option Ending) → is_axis w ≡ b → ending_of f ws ≡ o → (if b then option_map (product (axis_spelled w)) o else None) ≡ Some l → HasName l
    go true (Some x) d s e = subst HasName (some_same _ _ _ refl e) (axis_other w d, ending_small f ws x s)
    go true None d s e = absurd (cc)
    go false o d s e = absurd (cc)

line_named : (two : Bool) (ws : List (List ℕ)) (l : Line) → line_of two ws ≡ Some l → HasName l
unfolding line_of formed
line_named two [] l e = absurd (cc)
line_named two (key ∷ ws) l e = go (bytes_eq key (codes "c")) e
  where
    formed_named : (o : Option Form) → formed o ws ≡ Some l → HasName l
    formed_named None e = absurd (cc)
    formed_named (Some f) e = product_named f ws l e

    go : (b : Bool) → (if b then option_map (λ p. register p.0 p.1) (name_and_number ws) else formed (form_of two key) ws) ≡ Some l → HasName l
    go true e = register_named (name_and_number ws) l (λ p f. pair_named ws p f) e
    go false e = formed_named (form_of two key) e

text_formed : (two : Bool) (n : ℕ) (c d : Circuit) (text : List ℕ) → Kept c → with_text two n c text ≡ Ok d → Kept d
unfolding with_text
text_formed two n c d text h e = go (is_passed text) e
  where
    read : (o : Option Line) → line_of two (words text) ≡ o → at_line n (with_form c o) ≡ Ok d → Kept d
    read None f e = absurd (cc)
    read (Some l) f e = line_formed c d l h (line_named two (words text) l f) (at_ok n (with_line c l) d e)

    go : (b : Bool) → (if b then Ok c else at_line n (with_form c (line_of two (words text)))) ≡ Ok d → Kept d
    go true e = subst Kept (same_ok _ _ _ refl e) h
    go false e = read (line_of two (words text)) refl e

lines_step : (r : Result Circuit CircuitFault) (d : Circuit) (f : Circuit → Result Circuit CircuitFault) → ((x : Circuit) → r ≡ Ok x → f x ≡ Ok d → Kept d) → and_then r f ≡ Ok d → Kept d
lines_step (Ok x) d f h e = h x refl e
lines_step (Err k) d f h e = absurd (cc)

lines_formed : (two : Bool) (n : ℕ) (c d : Circuit) (texts : List (List ℕ)) → Kept c → with_lines two n c texts ≡ Ok d → Kept d
unfolding with_lines
lines_formed two n c d [] h e = subst Kept (same_ok _ _ _ refl e) h
lines_formed two n c d (text ∷ texts) h e = lines_step (with_text two n c text) d (λ x. with_lines two (n + 1) x texts) (λ x f g. lines_formed two (n + 1) x d texts (text_formed two n c x text h f) g) e

few_step : (two : Bool) (n : ℕ) (x : Header) (b : Bool) → nat_lt 1024 n ≡ b → with_version (Ok two) (if b then Err TooMany else Ok n) ≡ Ok x → x.qubits ≤ 1024
few_step two n x true f e = absurd (cc)
few_step two n x false f e = let P : Header → Type 0 = λ y. y.qubits ≤ 1024 in subst P (same_ok _ _ _ refl e) (ltb-false 1024 n f)

header_few : (ws : List (List ℕ)) (x : Header) → header_of ws ≡ Ok x → x.qubits ≤ 1024
unfolding header_of
header_few [] x e = absurd (cc)
header_few (w ∷ ws) x e = versioned (version_of w) (number_alone ws) e
  where
    versioned : (v : Result Bool FaultKind) (o : Option ℕ) → with_version v (few_qubits o) ≡ Ok x → x.qubits ≤ 1024
    versioned (Err k) o e = absurd (cc)
    versioned (Ok two) None e = absurd (cc)
    versioned (Ok two) (Some n) e = few_step two n x (nat_lt 1024 n) refl e

bare_formed : (n : ℕ) → n ≤ 1024 → Kept (bare n)
bare_formed n few = record {
  formed = record {
    few_qubits = few;
    few_registers = omega arith;
    axes_fit = All-nil (λ i. OfLength n (axis_of i));
    names_fit = All-nil (λ r. IsOneLine r.name);
    firsts_run_on = tt;
    bits_fit = All-nil (BitsBelow (bits_in [] + 0));
    reads_fit = All-nil (ReadsWhole []);
    hidden_in_order = omega arith;
  };
  few = omega arith;
  lettered = All-nil AxisHasLetter;
  declared = tt;
  small = All-nil HasSmallValue;
}

header_step : (r : Result Header CircuitFault) (d : Circuit) (texts : List (List ℕ)) → ((x : Header) → r ≡ Ok x → x.qubits ≤ 1024) → and_then r (λ h. with_lines h.two 2 (bare h.qubits) texts) ≡ Ok d → Kept d
header_step (Ok x) d texts few e = lines_formed x.two 2 (bare x.qubits) d texts (bare_formed x.qubits (few x refl)) e
header_step (Err k) d texts few e = absurd (cc)

list_formed : (ls : List (List ℕ)) (d : Circuit) → list_of ls ≡ Ok d → Kept d
unfolding list_of
list_formed [] d e = absurd (cc)
list_formed (first ∷ texts) d e = header_step (at_line 1 (header_of (words (drop 9 first)))) d texts (λ x f. header_few (words (drop 9 first)) x (at_ok 1 (header_of (words (drop 9 first))) x f)) e

pub circuit_formed : (text : List ℕ) (d : Circuit) → list_circuit text ≡ Ok d → Kept d
unfolding list_circuit
circuit_formed text d e = go (nat_lt 4194304 (length text)) e
  where
    go : (b : Bool) → (if b then Err (fault.At 0 TooLong) else list_of (lines text)) ≡ Ok d → Kept d
    go true e = absurd (cc)
    go false e = list_formed (lines text) d e

-- no more products than items
kinds_few : (is : List Item) → length (kinds is) ≤ length is
kinds_few [] = omega arith
kinds_few (item.Turn axis Eighth ∷ is) = let h = kinds_few is in omega arith
kinds_few (item.Turn axis Quarter ∷ is) = let h = kinds_few is in omega arith
kinds_few (item.Turn axis Half ∷ is) = let h = kinds_few is in omega arith
kinds_few (item.Measure axis bit ∷ is) = let h = kinds_few is in omega arith
kinds_few (item.If axis first size value ∷ is) = let h = kinds_few is in omega arith

pub given_formed : (text : List ℕ) (r : Result Circuit CircuitFault) → Gives (λ c. c) r (list_circuit text) → IfOk r (λ c. WellFormed c)
given_formed text (Ok c) h = (circuit_formed text c h).formed
given_formed text (Err e) h = tt

pub given_few : (text : List ℕ) (r : Result Circuit CircuitFault) → Gives (λ c. c) r (list_circuit text) → IfOk r (λ c. length (kinds c.items) ≤ 16384)
given_few text (Ok c) h = let k = kinds_few c.items in let f = (circuit_formed text c h).few in omega arith
given_few text (Err e) h = tt

pub given_lettered : (text : List ℕ) (r : Result Circuit CircuitFault) → Gives (λ c. c) r (list_circuit text) → IfOk r (λ c. All AxisHasLetter c.items)
given_lettered text (Ok c) h = (circuit_formed text c h).lettered
given_lettered text (Err e) h = tt

-- ---- what a list's circuit has
pub list_listable : (text : List ℕ) (d : Circuit) → list_circuit text ≡ Ok d → IsListable d
list_listable text d e =
    let h = circuit_formed text d e in
    let few = h.few in
    let fewer = kinds_few d.items in
    record { formed = h.formed; few = omega arith; lettered = h.lettered; declared = h.declared; small = h.small }
