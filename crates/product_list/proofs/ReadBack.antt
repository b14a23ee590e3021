-- The printed product list of a circuit is read as its static circuit.
use Rattle.std.proofs.Common.{◌≡◌, ◌⊎◌, ℕ, ◌+◌, ◌<◌, ◌≤◌, if◌then◌else◌, Bool, true, false, IsTrue, List, [], ◌∷◌, ◌++◌, length, drop, codes, decimal, Ok, All, refl, ◌∙◌, ap, subst, arith, append_assoc, inl, inr, None, is_none, nat_lt}
use Rattle.std.specs.Prelude.{Any}
use Rattle.source_model.specs.Used.{acts_at}
use Rattle.std.specs.List.{flat_map, list_any, AllByRecursion as ByRecursion}
use Rattle.std.proofs.lemmas.Bool.{le-ltb, or_left, or_right}
use Rattle.std.proofs.lemmas.List.Elements.{All-nil, All-cons, All-head, All-tail, All-append}
use Rattle.patch_base.specs.Texts.{lines, words, spaced}
use Rattle.pauli_product.specs.Signed.{Signed, OfLength}
use Rattle.pauli_product.specs.Pulls.{Angle, Turn, turn, quarter, half, pull, TurnsOfLength}
use Rattle.pauli_product.proofs.Laws.{pull_length}
use Rattle.source_model.specs.declared.Angle.TheVariants.{Eighth, Quarter, Half}
use Rattle.source_model.specs.declared.Circuit.{Circuit}
use Rattle.source_model.specs.declared.Item.{Item}
use Rattle.source_model.specs.declared.Item.TheVariants as item
use Rattle.source_model.specs.declared.Kind.TheVariants as kind
use Rattle.source_model.specs.declared.Register.{Register}
use Rattle.source_model.specs.declared.Static.{Static}
use Rattle.source_model.specs.SourceRun.{axis_of}
use Rattle.source_model.specs.Circuits.{AxesOfLength, HiddenInOrder, ReadsWhole, bits_in, kinds}
use Rattle.source_model.specs.Statics.{statics, statics_from}
use Rattle.product_list.specs.Listable.{AreDeclared, AxisHasLetter, HasSmallValue, IsListable, lowered, static_circuit}
use Rattle.product_list.specs.ListText.{few_qubits, header_of, list_circuit, number_alone, version_of}
use Rattle.product_list.specs.Printed.{header_text, is_special, line_text, list_text, needs_two, product_line, register_text, register_with}
use Rattle.product_list.proofs.Declared.{IsOne, bit_nowhere}
use Rattle.product_list.proofs.Lettered.{pull_other}
use Rattle.product_list.proofs.LinesBack.{AreFit, AxisFits, products_back, registers_back}
use Rattle.product_list.proofs.Plain.{Above, Above-decimal, lines_back, words_back}
use Rattle.product_list.proofs.Texts.{header_some, list_headed}
use Rattle.product_list.proofs.Wording.{alone_some}

-- ---- the static products of items

record ItemFits (n : ℕ) (rs : List Register) (i : Item) : Type 0 where
  long : OfLength n (axis_of i)
  letter : AxisHasLetter i
  whole : ReadsWhole rs i
  small : HasSmallValue i

items_fit : (n : ℕ) (rs : List Register) (is : List Item) → AxesOfLength n is → All AxisHasLetter is → All (ReadsWhole rs) is → All HasSmallValue is → ByRecursion (ItemFits n rs) is
items_fit n rs [] a b c d = tt
items_fit n rs (i ∷ is) a b c d = (
  record { long = All-head (λ (j : Item). OfLength n (axis_of j)) i is a; letter = All-head AxisHasLetter i is b; whole = All-head (ReadsWhole rs) i is c; small = All-head HasSmallValue i is d },
  items_fit n rs is (All-tail (λ (j : Item). OfLength n (axis_of j)) i is a) (All-tail AxisHasLetter i is b) (All-tail (ReadsWhole rs) i is c) (All-tail HasSmallValue i is d),
)

pulled_fits : (n : ℕ) (turns : List Turn) (axis : Signed) → TurnsOfLength n turns → OfLength n axis → (q : ℕ) × IsTrue (acts_at axis q) → AxisFits n (pull turns axis)
pulled_fits n turns axis t long letter = record { long = pull_length n turns axis t long; other = pull_other turns axis letter.0 letter.1 }

one_turn : (n : ℕ) (turns : List Turn) (axis : Signed) (a : Angle) → TurnsOfLength n turns → OfLength n axis → TurnsOfLength n (turns ++ turn axis a ∷ [])
one_turn n turns axis a t e = All-append (λ (t : Turn). OfLength n t.axis) turns (turn axis a ∷ []) t (All-cons (λ (t : Turn). OfLength n t.axis) (turn axis a) [] e (All-nil (λ (t : Turn). OfLength n t.axis)))

-- version 2 is there where some product needs it
abbrev Versioned : List Register → Bool → List Static → Type 0
Versioned rs two ss = list_any (λ s. is_special rs s.kind) ss ≡ true → two ≡ true

later_version : (rs : List Register) (two : Bool) (s : Static) (ss : List Static) → Versioned rs two (s ∷ ss) → Versioned rs two ss
later_version rs two s ss h e = h (or_right (is_special rs s.kind) (list_any (λ t. is_special rs t.kind) ss) e)

own_version : (rs : List Register) (two : Bool) (s : Static) (ss : List Static) → Versioned rs two (s ∷ ss) → is_special rs s.kind ≡ true → two ≡ true
own_version rs two s ss h e = h (or_left (is_special rs s.kind) (list_any (λ t. is_special rs t.kind) ss) e)

statics_fit : (n : ℕ) (rs : List Register) (two : Bool) (turns : List Turn) (high end : ℕ) (is : List Item) → AreDeclared [] rs → TurnsOfLength n turns → ByRecursion (ItemFits n rs) is → HiddenInOrder (bits_in rs) (bits_in rs + high) (bits_in rs + end) is → Versioned rs two (statics_from turns is) → AreFit rs n two high end (statics_from turns is)
statics_fit n rs two turns high end [] d t fit order v = omega arith
statics_fit n rs two turns high end (item.Turn axis Eighth ∷ is) d t fit order v =
    (high, omega arith, pulled_fits n turns axis t fit.0.long fit.0.letter, refl, statics_fit n rs two turns high end is d t fit.1 order (later_version rs two (record { axis = pull turns axis; kind = kind.Rotation }) (statics_from turns is) v))
statics_fit n rs two turns high end (item.Turn axis Quarter ∷ is) d t fit order v = statics_fit n rs two (turns ++ turn axis quarter ∷ []) high end is d (one_turn n turns axis quarter t fit.0.long) fit.1 order v
statics_fit n rs two turns high end (item.Turn axis Half ∷ is) d t fit order v = statics_fit n rs two (turns ++ turn axis half ∷ []) high end is d (one_turn n turns axis half t fit.0.long) fit.1 order v
statics_fit n rs two turns high end (item.Measure axis bit ∷ is) d t fit (inl (below, order)) v =
    (high, omega arith, pulled_fits n turns axis t fit.0.long fit.0.letter, inl (below, refl), statics_fit n rs two turns high end is d t fit.1 order (later_version rs two (record { axis = pull turns axis; kind = kind.Measure bit }) (statics_from turns is) v))
statics_fit n rs two turns high end (item.Measure axis bit ∷ is) d t fit (inr (at, order)) v =
    let s : Static = record { axis = pull turns axis; kind = kind.Measure bit } in
    let nowhere : register_with rs bit ≡ None = bit_nowhere [] rs bit d (omega arith) in
    let P : ℕ → Type 0 = λ m. HiddenInOrder (bits_in rs) m (bits_in rs + end) is in
    let same : bits_in rs + high + 1 ≡ bits_in rs + (high + 1) = omega arith in
    (high + 1, omega arith, pulled_fits n turns axis t fit.0.long fit.0.letter, inr (at, own_version rs two s (statics_from turns is) v (ap is_none nowhere), refl), statics_fit n rs two turns (high + 1) end is d t fit.1 (subst P same order) (later_version rs two s (statics_from turns is) v))
statics_fit n rs two turns high end (item.If axis first size value ∷ is) d t fit order v =
    let s : Static = record { axis = pull turns axis; kind = kind.Settle first size value } in
    (high, omega arith, pulled_fits n turns axis t fit.0.long fit.0.letter, (own_version rs two s (statics_from turns is) v refl, refl, fit.0.small, read_bits fit.0.whole order.0), statics_fit n rs two turns high end is d t fit.1 order.1 (later_version rs two s (statics_from turns is) v))
  where
    read_bits : ReadsWhole rs (item.If axis first size value) → first + size ≤ bits_in rs + high → Any (IsOne first size) rs ⊎ ((bits_in rs ≤ first) × (size ≡ 1) × (value ≡ 1) × (first < bits_in rs + high))
    read_bits (inl there) l = inl there
    read_bits (inr (low, one, weight)) l = inr (low, one, weight, omega arith)

statics_few : (turns : List Turn) (is : List Item) → length (statics_from turns is) ≡ length (kinds is)
statics_few turns [] = refl
statics_few turns (item.Turn axis Eighth ∷ is) = let h = statics_few turns is in omega arith
statics_few turns (item.Turn axis Quarter ∷ is) = statics_few (turns ++ turn axis quarter ∷ []) is
statics_few turns (item.Turn axis Half ∷ is) = statics_few (turns ++ turn axis half ∷ []) is
statics_few turns (item.Measure axis bit ∷ is) = let h = statics_few turns is in omega arith
statics_few turns (item.If axis first size value ∷ is) = let h = statics_few turns is in omega arith

-- ---- the first line

abbrev version_word : Bool → List ℕ
version_word two = if two then codes "2" else codes "1"

header_words : Bool → ℕ → List (List ℕ)
header_words two n = codes "products" ∷ version_word two ∷ decimal n ∷ []

version_back : (two : Bool) → version_of (version_word two) ≡ Ok two
unfolding version_of
version_back true = refl
version_back false = refl

version_above : (two : Bool) → Above (version_word two)
version_above true = (omega arith, tt)
version_above false = (omega arith, tt)

key_above : Above (codes "products")
key_above = (omega arith, (omega arith, (omega arith, (omega arith, (omega arith, (omega arith, (omega arith, (omega arith, tt))))))))

few_back : (n : ℕ) → n ≤ 1024 → few_qubits (number_alone (decimal n ∷ [])) ≡ Ok n
few_back n few =
    let alone = alone_some (decimal n ∷ []) (decimal n) [] n refl refl (omega arith) refl in
    let small : nat_lt 1024 n ≡ false = le-ltb 1024 n few in
    ap few_qubits alone ∙ rw small refl

header_back : (two : Bool) (n : ℕ) → n ≤ 1024 → header_of (words (drop 9 (spaced (header_words two n)))) ≡ Ok (record { two = two; qubits = n })
unfolding header_words
header_back two n few =
    let ws = version_word two ∷ decimal n ∷ [] in
    header_some (words (spaced ws)) (version_word two) (decimal n ∷ []) two n (words_back (version_word two) (decimal n ∷ []) (version_above two, (Above-decimal n (omega arith), tt))) (version_back two) (few_back n few)

-- ---- the whole text

pub listed_back : (c : Circuit) → IsListable c → length (lowered c) ≤ 4194304 → list_circuit (lowered c) ≡ Ok (static_circuit c)
unfolding list_text header_text line_text header_words needs_two
listed_back c h short =
    let n = c.qubits in
    let rs = c.registers in
    let ss = statics c.items in
    let two = needs_two rs ss in
    let head = header_text two n in
    let middle = flat_map register_text rs in
    let tail = flat_map (product_line rs) ss in
    let whole : lines (lowered c) ≡ spaced (header_words two n) ∷ lines (middle ++ tail) =
    ap lines (append_assoc head middle tail) ∙ lines_back (header_words two n) (middle ++ tail) (key_above, (version_above two, (Above-decimal n (let f = h.formed.few_qubits in omega arith), tt))) in
    let first = list_headed (lowered c) (spaced (header_words two n)) (lines (middle ++ tail)) two n short whole (header_back two n h.formed.few_qubits) in
    let second = registers_back two n 2 [] rs tail h.declared in
    let fit = items_fit n rs c.items h.formed.axes_fit h.lettered h.formed.reads_fit h.small in
    let P : ℕ → Type 0 = λ m. HiddenInOrder (bits_in rs) m (bits_in rs + c.hidden) c.items in
    let from : bits_in rs ≡ bits_in rs + 0 = omega arith in
    let fits = statics_fit n rs two [] 0 c.hidden c.items h.declared (All-nil (λ (t : Turn). OfLength n t.axis)) fit (subst P from h.formed.hidden_in_order) (λ e. e) in
    let few = h.few in
    let same = statics_few [] c.items in
    first ∙ second.1 ∙ products_back two n second.0 rs [] 0 c.hidden ss h.declared fits (omega arith) (omega arith)
