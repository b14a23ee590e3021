-- The items of a program's flat operations, and that its circuit keeps the conditions of every call that takes a circuit.
use Rattle.std.proofs.Common.{◌≡◌, ℕ, zero, suc, ◌+◌, ◌<◌, ◌≤◌, Bool, true, false, List, [], ◌∷◌, ◌++◌, length, map, take, drop, slice_get, replicate, Some, All, refl, sym, subst, ◌∙◌, ap, arith, inl, inr, append_assoc, append-nil, length-set, None}
use Rattle.std.specs.Prelude.{Any, IsTrue, cond, nat_lt, sum_by, slice_set, slice_index_or}
use Rattle.std.specs.List.{AllByRecursion as ByRecursion}
use Rattle.std.proofs.lemmas.List.{length-map, length-replicate, get_or-map, drop_all}
use Rattle.std.proofs.lemmas.Grind.{get_or-set_at}
use Rattle.std.proofs.lemmas.Bool.{ltb-false, or_parts}
use Rattle.std.proofs.lemmas.List.Sums.{sum_by-cons}
use Rattle.std.proofs.lemmas.List.Elements.{All-head, All-tail, All-from_recursion}
use Rattle.pauli_product.specs.declared.Letter.{Letter}
use Rattle.pauli_product.specs.declared.Letter.TheVariants.{I, X, Y, Z}
use Rattle.pauli_product.specs.Signed.{OfLength}
use Rattle.source_model.specs.declared.Angle.{Angle}
use Rattle.source_model.specs.declared.Angle.TheVariants.{Eighth, Quarter, Half}
use Rattle.source_model.specs.declared.Item.{Item}
use Rattle.source_model.specs.declared.Item.TheVariants as item
use Rattle.source_model.specs.declared.Register.{Register}
use Rattle.source_model.specs.SourceRun.{axis_of}
use Rattle.source_model.specs.Used.{acts, acts_at}
use Rattle.source_model.specs.Circuits.{BitsBelow, FirstsRunOn, HiddenInOrder, IsOneLine, ReadsWhole, WellFormed, bits_in, kinds}
use Rattle.qasm_parse.specs.declared.tree.Gate1.{Gate1}
use Rattle.qasm_parse.specs.declared.tree.Gate1.TheVariants as ones
use Rattle.qasm_parse.specs.declared.tree.Gate2.{Gate2}
use Rattle.qasm_parse.specs.declared.tree.Gate2.TheVariants as twos
use Rattle.qasm_parse.specs.declared.tree.Declared.{Declared}
use Rattle.qasm_parse.specs.declared.tree.Statement.{Statement}
use Rattle.qasm_parse.specs.declared.tree.Tree.{Tree}
use Rattle.qasm_expand.specs.declared.flat.Flat.{Flat}
use Rattle.qasm_expand.specs.declared.flat.Flat.TheVariants as flats
use Rattle.qasm_expand.specs.Flats.{flats_of}
use Rattle.qasm_expand.specs.Sound.{members, AreNumbered, IsRegister, IsSound, is_conditional}
use Rattle.qasm_expand.specs.Placed.{IsPlaced}
use Rattle.qasm_expand.specs.Limits as limits
use Rattle.qasm_expand.specs.Limits.{gate_products, if_products, products, product_count, is_past, line_of, passing, passing_from}
use Rattle.rotation_list.proofs.Each.{both_parts}
use Rattle.rotation_list.specs.Gates.{one_letter, two_letters, turn_one, controlled, conditional, measured}
use Rattle.rotation_list.specs.Items.{one_gate, two_gate, conditional_gate, flat_items, hidden_in, items_from, register_in, circuit_of}
use Rattle.rotation_list.specs.inside.Items.{ActsBelow, IsNamed, HasNames}
use Rattle.product_list.specs.Listable.{AxisHasLetter}

-- a register of these bits
abbrev IsOne : ℕ → ℕ → Register → Type 0
IsOne first size r = (r.first ≡ first) × (r.size ≡ size)

-- ---- the items of flat operations, one after another

pub items_next : (n next : ℕ) (f : Flat) (fs : List Flat) → items_from n next (f ∷ fs) ≡ flat_items n next f ++ items_from n (next + hidden_in f) fs
unfolding items_from
items_next n next f fs = refl

pub items_end : (n next : ℕ) → items_from n next [] ≡ []
unfolding items_from
items_end n next = refl

pub items_more : (n bits i h m : ℕ) (fs : List Flat) (f : Flat) (all before now : List Item) → all ≡ before ++ items_from n (bits + h) (drop i fs) → drop i fs ≡ f ∷ drop (i + 1) fs → now ≡ before ++ flat_items n (bits + h) f → m ≡ hidden_in f → all ≡ now ++ items_from n (bits + (h + m)) (drop (i + 1) fs)
items_more n bits i h m fs f all before now e d a k =
    let rest : List Item = items_from n (bits + h + hidden_in f) (drop (i + 1) fs) in
    let same : bits + h + hidden_in f ≡ bits + (h + m) = omega arith in
    e ∙ (ap (λ xs. before ++ items_from n (bits + h) xs) d ∙ (ap (λ xs. before ++ xs) (items_next n (bits + h) f (drop (i + 1) fs)) ∙ (sym (append_assoc before (flat_items n (bits + h) f) rest) ∙ (ap (λ xs. xs ++ rest) (sym a) ∙ ap (λ j. now ++ items_from n j (drop (i + 1) fs)) same))))

pub hidden_more : (i h m : ℕ) (fs : List Flat) (f : Flat) → sum_by hidden_in fs ≡ h + sum_by hidden_in (drop i fs) → drop i fs ≡ f ∷ drop (i + 1) fs → m ≡ hidden_in f → sum_by hidden_in fs ≡ h + m + sum_by hidden_in (drop (i + 1) fs)
hidden_more i h m fs f e d k =
    let next : sum_by hidden_in (drop i fs) ≡ hidden_in f + sum_by hidden_in (drop (i + 1) fs) = ap (sum_by hidden_in) d ∙ sum_by-cons hidden_in f (drop (i + 1) fs) in
    omega arith

pub items_all : (n bits i h : ℕ) (fs : List Flat) (all before : List Item) → all ≡ before ++ items_from n (bits + h) (drop i fs) → length fs ≤ i → before ≡ all
items_all n bits i h fs all before e l =
    let none : drop i fs ≡ [] = drop_all i fs l in
    sym (e ∙ (ap (λ xs. before ++ items_from n (bits + h) xs) none ∙ (ap (λ xs. before ++ xs) (items_end n (bits + h)) ∙ append-nil before)))

pub joined_is : (text : List ℕ) (tree : Tree) (n bits hidden : ℕ) (fs : List Flat) (registers : List Register) (items : List Item) → n ≡ members tree.quantum → bits ≡ members tree.classical → hidden ≡ sum_by hidden_in fs → fs ≡ flats_of tree → registers ≡ map (register_in text) tree.classical → items ≡ items_from n bits fs → record { qubits = n; registers = registers; items = items; hidden = hidden } ≡ circuit_of text tree
unfolding circuit_of
joined_is text tree n bits hidden fs registers items a b h f r i = rw (r, i, h, f, a, b) refl

-- what an operation acts on
pub acts_placed : (tree : Tree) (f : Flat) → IsPlaced tree f → ActsBelow (members tree.quantum) f
acts_placed tree (flats.Gate1 gate q) h = h
acts_placed tree (flats.Gate2 gate a b) h = (h.0, h.1)
acts_placed tree (flats.Measure q bit) h = h.0
acts_placed tree (flats.Reset q) h = h
acts_placed tree (flats.If gate q first size value) h = h.0

pub all_act : (tree : Tree) (fs : List Flat) → All (IsPlaced tree) fs → All (ActsBelow (members tree.quantum)) fs
all_act tree fs h k d l = acts_placed tree (slice_index_or fs k d) (h k d l)

-- ---- what the items of an operation keep

pub record Fits (n high : ℕ) (registers : List Register) (i : Item) : Type 0 where
  pub axis : OfLength n (axis_of i)
  pub letter : AxisHasLetter i
  pub below : BitsBelow high i
  pub whole : ReadsWhole registers i

one_long : (n : ℕ) (minus : Bool) (q : ℕ) (l : Letter) → OfLength n (one_letter n minus q l)
unfolding one_letter
one_long n minus q l = length-set (replicate n I) q l ∙ length-replicate n I

two_long : (n a : ℕ) (l : Letter) (b : ℕ) (m : Letter) → OfLength n (two_letters n a l b m)
unfolding two_letters
two_long n a l b m = length-set (slice_set (replicate n I) a l) b m ∙ (length-set (replicate n I) a l ∙ length-replicate n I)

abbrev pub AllFit : ℕ → ℕ → List Register → List Item → Type 0
AllFit n high registers is = ByRecursion (Fits n high registers) is

one_acts : (n : ℕ) (minus : Bool) (q : ℕ) (l : Letter) → q < n → acts l ≡ true → (p : ℕ) × IsTrue (acts_at (one_letter n minus q l) p)
unfolding one_letter
one_acts n minus q l within a =
    let long : q < length (replicate n I) = subst (λ m. q < m) (sym (length-replicate n I)) within in
    (q, ap acts (get_or-set_at (replicate n I) q q l I refl long) ∙ a)

two_acts : (n a : ℕ) (l : Letter) (b : ℕ) (m : Letter) → b < n → acts m ≡ true → (p : ℕ) × IsTrue (acts_at (two_letters n a l b m) p)
unfolding two_letters
two_acts n a l b m within e =
    let first = slice_set (replicate n I) a l in
    let size : length first ≡ n = length-set (replicate n I) a l ∙ length-replicate n I in
    let long : b < length first = subst (λ k. b < k) (sym size) within in
    (b, ap acts (get_or-set_at first b b m I refl long) ∙ e)

pub turn_fits : (n high : ℕ) (registers : List Register) (minus : Bool) (q : ℕ) (l : Letter) (angle : Angle) → q < n → acts l ≡ true → Fits n high registers (turn_one n minus q l angle)
turn_fits n high registers minus q l angle w a = record { axis = one_long n minus q l; letter = one_acts n minus q l w a; below = tt; whole = tt }

one_fits : (n high : ℕ) (registers : List Register) (gate : Gate1) (q : ℕ) → q < n → AllFit n high registers (one_gate n gate q)
one_fits n high registers ones.Id q w = tt
one_fits n high registers ones.X q w = (turn_fits n high registers false q X Half w refl, tt)
one_fits n high registers ones.Y q w = (turn_fits n high registers false q Y Half w refl, tt)
one_fits n high registers ones.Z q w = (turn_fits n high registers false q Z Half w refl, tt)
one_fits n high registers ones.H q w = (turn_fits n high registers false q Z Quarter w refl, (turn_fits n high registers false q X Quarter w refl, (turn_fits n high registers false q Z Quarter w refl, tt)))
one_fits n high registers ones.S q w = (turn_fits n high registers false q Z Quarter w refl, tt)
one_fits n high registers ones.Sdg q w = (turn_fits n high registers true q Z Quarter w refl, tt)
one_fits n high registers ones.Sx q w = (turn_fits n high registers false q X Quarter w refl, tt)
one_fits n high registers ones.Sxdg q w = (turn_fits n high registers true q X Quarter w refl, tt)
one_fits n high registers ones.T q w = (turn_fits n high registers false q Z Eighth w refl, tt)
one_fits n high registers ones.Tdg q w = (turn_fits n high registers true q Z Eighth w refl, tt)

pub controlled_fits : (n high : ℕ) (registers : List Register) (l : Letter) (c t : ℕ) → c < n → t < n → acts l ≡ true → AllFit n high registers (controlled n l c t)
controlled_fits n high registers l c t v w a = (record { axis = two_long n c Z t l; letter = two_acts n c Z t l w a; below = tt; whole = tt }, (turn_fits n high registers true t l Quarter w a, (turn_fits n high registers true c Z Quarter v refl, tt)))

two_fits : (n high : ℕ) (registers : List Register) (gate : Gate2) (c t : ℕ) → c < n → t < n → AllFit n high registers (two_gate n gate c t)
two_fits n high registers twos.Cx c t v w = controlled_fits n high registers X c t v w refl
two_fits n high registers twos.Cy c t v w = controlled_fits n high registers Y c t v w refl
two_fits n high registers twos.Cz c t v w = controlled_fits n high registers Z c t v w refl

if_fits : (n high : ℕ) (registers : List Register) (l : Letter) (q first size value : ℕ) → q < n → acts l ≡ true → first + size ≤ high → ReadsWhole registers (item.If (one_letter n false q l) first size value) → AllFit n high registers (conditional n l q first size value)
if_fits n high registers l q first size value w a below whole = (record { axis = one_long n false q l; letter = one_acts n false q l w a; below = below; whole = whole }, tt)

conditional_fits : (n high : ℕ) (registers : List Register) (gate : Gate1) (q first size value : ℕ) → q < n → first + size ≤ high → Any (IsOne first size) registers → AllFit n high registers (conditional_gate n gate q first size value)
conditional_fits n high registers ones.X q first size value w below whole = if_fits n high registers X q first size value w refl below (inl whole)
conditional_fits n high registers ones.Y q first size value w below whole = if_fits n high registers Y q first size value w refl below (inl whole)
conditional_fits n high registers ones.Z q first size value w below whole = if_fits n high registers Z q first size value w refl below (inl whole)
conditional_fits n high registers ones.Id q first size value w below whole = tt
conditional_fits n high registers ones.H q first size value w below whole = tt
conditional_fits n high registers ones.S q first size value w below whole = tt
conditional_fits n high registers ones.Sdg q first size value w below whole = tt
conditional_fits n high registers ones.Sx q first size value w below whole = tt
conditional_fits n high registers ones.Sxdg q first size value w below whole = tt
conditional_fits n high registers ones.T q first size value w below whole = tt
conditional_fits n high registers ones.Tdg q first size value w below whole = tt

-- a condition's register is one of the circuit's, and lies within its bits
record IsDeclared (bits : ℕ) (declared : List Declared) (registers : List Register) : Type 0 where
  bits_are : bits ≡ bits_in registers
  all : bits ≡ members declared
  one : (first size : ℕ) → IsRegister declared first size → Any (IsOne first size) registers × (first + size ≤ bits)

pub measured_fits : (n high : ℕ) (registers : List Register) (q bit : ℕ) → q < n → bit < high → AllFit n high registers (measured n q bit)
measured_fits n high registers q bit w b = (record { axis = one_long n false q Z; letter = one_acts n false q Z w refl; below = b; whole = tt }, tt)

flat_fits : (tree : Tree) (next high : ℕ) (registers : List Register) (f : Flat) → IsPlaced tree f → IsDeclared (members tree.classical) tree.classical registers → members tree.classical ≤ next → next + hidden_in f ≤ high → AllFit (members tree.quantum) high registers (flat_items (members tree.quantum) next f)
flat_fits tree next high registers (flats.Gate1 gate q) h d low room = one_fits (members tree.quantum) high registers gate q h
flat_fits tree next high registers (flats.Gate2 gate a b) h d low room = two_fits (members tree.quantum) high registers gate a b h.0 h.1
flat_fits tree next high registers (flats.Measure q bit) h d low room = measured_fits (members tree.quantum) high registers q bit h.0 (let b : bit < members tree.classical = h.1 in omega arith)
flat_fits tree next high registers (flats.Reset q) h d low room =
    let n = members tree.quantum in
    (record { axis = one_long n false q Z; letter = one_acts n false q Z h refl; below = omega arith; whole = tt }, if_fits n high registers X q next 1 1 h refl room (inr ((let e = d.bits_are in omega arith), refl, refl)))
flat_fits tree next high registers (flats.If gate q first size value) h d low room =
    let r = d.one first size h.1 in
    conditional_fits (members tree.quantum) high registers gate q first size value h.0 (let l = r.1 in omega arith) r.0

pub both_fit : (n high : ℕ) (registers : List Register) (is js : List Item) → AllFit n high registers is → AllFit n high registers js → AllFit n high registers (is ++ js)
both_fit n high registers is js h k = both_parts (Fits n high registers) is js h k

all_fit : (tree : Tree) (next high : ℕ) (registers : List Register) (fs : List Flat) → All (IsPlaced tree) fs → IsDeclared (members tree.classical) tree.classical registers → members tree.classical ≤ next → next + sum_by hidden_in fs ≤ high → AllFit (members tree.quantum) high registers (items_from (members tree.quantum) next fs)
all_fit tree next high registers [] h d low room = let P : List Item → Type 0 = AllFit (members tree.quantum) high registers in subst P (sym (items_end (members tree.quantum) next)) tt
all_fit tree next high registers (f ∷ fs) h d low room =
    let n = members tree.quantum in
    let total = sum_by-cons hidden_in f fs in
    let P : List Item → Type 0 = AllFit n high registers in
    subst P (sym (items_next n next f fs))
    (both_fit n high registers (flat_items n next f) (items_from n (next + hidden_in f) fs)
    (flat_fits tree next high registers f (All-head (IsPlaced tree) f fs h) d low (omega arith))
    (all_fit tree (next + hidden_in f) high registers fs (All-tail (IsPlaced tree) f fs h) d (omega arith) (omega arith)))

-- ---- hidden bits

one_order : (bits next end n : ℕ) (gate : Gate1) (q : ℕ) (is : List Item) → HiddenInOrder bits next end is → HiddenInOrder bits next end (one_gate n gate q ++ is)
one_order bits next end n ones.Id q is h = h
one_order bits next end n ones.X q is h = h
one_order bits next end n ones.Y q is h = h
one_order bits next end n ones.Z q is h = h
one_order bits next end n ones.H q is h = h
one_order bits next end n ones.S q is h = h
one_order bits next end n ones.Sdg q is h = h
one_order bits next end n ones.Sx q is h = h
one_order bits next end n ones.Sxdg q is h = h
one_order bits next end n ones.T q is h = h
one_order bits next end n ones.Tdg q is h = h

two_order : (bits next end n : ℕ) (gate : Gate2) (a b : ℕ) (is : List Item) → HiddenInOrder bits next end is → HiddenInOrder bits next end (two_gate n gate a b ++ is)
two_order bits next end n twos.Cx a b is h = h
two_order bits next end n twos.Cy a b is h = h
two_order bits next end n twos.Cz a b is h = h

if_order : (bits next end n : ℕ) (gate : Gate1) (q first size value : ℕ) (is : List Item) → first + size ≤ next → HiddenInOrder bits next end is → HiddenInOrder bits next end (conditional_gate n gate q first size value ++ is)
if_order bits next end n ones.X q first size value is l h = (l, h)
if_order bits next end n ones.Y q first size value is l h = (l, h)
if_order bits next end n ones.Z q first size value is l h = (l, h)
if_order bits next end n ones.Id q first size value is l h = h
if_order bits next end n ones.H q first size value is l h = h
if_order bits next end n ones.S q first size value is l h = h
if_order bits next end n ones.Sdg q first size value is l h = h
if_order bits next end n ones.Sx q first size value is l h = h
if_order bits next end n ones.Sxdg q first size value is l h = h
if_order bits next end n ones.T q first size value is l h = h
if_order bits next end n ones.Tdg q first size value is l h = h

same_next : (bits next end : ℕ) (is : List Item) → HiddenInOrder bits (next + 0) end is → HiddenInOrder bits next end is
same_next bits next end is h = let P : ℕ → Type 0 = λ m. HiddenInOrder bits m end is in let e : next + 0 ≡ next = omega arith in subst P e h

flat_order : (tree : Tree) (next end : ℕ) (registers : List Register) (f : Flat) (is : List Item) → IsPlaced tree f → IsDeclared (members tree.classical) tree.classical registers → members tree.classical ≤ next → HiddenInOrder (members tree.classical) (next + hidden_in f) end is → HiddenInOrder (members tree.classical) next end (flat_items (members tree.quantum) next f ++ is)
flat_order tree next end registers (flats.Gate1 gate q) is h d low k = one_order (members tree.classical) next end (members tree.quantum) gate q is (same_next (members tree.classical) next end is k)
flat_order tree next end registers (flats.Gate2 gate a b) is h d low k = two_order (members tree.classical) next end (members tree.quantum) gate a b is (same_next (members tree.classical) next end is k)
flat_order tree next end registers (flats.Measure q bit) is h d low k = inl (h.1, same_next (members tree.classical) next end is k)
flat_order tree next end registers (flats.Reset q) is h d low k = inr (refl, (omega arith, k))
flat_order tree next end registers (flats.If gate q first size value) is h d low k =
    let r = d.one first size h.1 in
    if_order (members tree.classical) next end (members tree.quantum) gate q first size value is (let l = r.1 in omega arith) (same_next (members tree.classical) next end is k)

all_order : (tree : Tree) (next end : ℕ) (registers : List Register) (fs : List Flat) → All (IsPlaced tree) fs → IsDeclared (members tree.classical) tree.classical registers → members tree.classical ≤ next → next + sum_by hidden_in fs ≡ end → HiddenInOrder (members tree.classical) next end (items_from (members tree.quantum) next fs)
all_order tree next end registers [] h d low e =
    let P : List Item → Type 0 = HiddenInOrder (members tree.classical) next end in
    let done : next ≡ end = omega arith in
    subst P (sym (items_end (members tree.quantum) next)) done
all_order tree next end registers (f ∷ fs) h d low e =
    let n = members tree.quantum in
    let total = sum_by-cons hidden_in f fs in
    let P : List Item → Type 0 = HiddenInOrder (members tree.classical) next end in
    subst P (sym (items_next n next f fs))
    (flat_order tree next end registers f (items_from n (next + hidden_in f) fs) (All-head (IsPlaced tree) f fs h) d low
    (all_order tree (next + hidden_in f) end registers fs (All-tail (IsPlaced tree) f fs h) d (omega arith) (omega arith)))

-- ---- registers

bits_are : (text : List ℕ) (ds : List Declared) → bits_in (map (register_in text) ds) ≡ members ds
bits_are text [] = refl
bits_are text (d ∷ ds) = sum_by-cons (λ r. r.size) (register_in text d) (map (register_in text) ds) ∙ (ap (λ n. d.size + n) (bits_are text ds) ∙ sym (sum_by-cons (λ r. r.size) d ds))

-- registers whose first numbers run on from a number
abbrev RunOn : ℕ → List Declared → Type 0
RunOn before ds = (k : ℕ) (r : Declared) → slice_get ds k ≡ Some r → r.first ≡ before + members (take k ds)

run_tail : (before : ℕ) (d : Declared) (ds : List Declared) → RunOn before (d ∷ ds) → RunOn (before + d.size) ds
run_tail before d ds h k r e = let f = h (suc k) r e in let total = sum_by-cons (λ (x : Declared). x.size) d (take k ds) in omega arith

firsts_run : (text : List ℕ) (before : ℕ) (ds : List Declared) → RunOn before ds → FirstsRunOn before (map (register_in text) ds)
firsts_run text before [] h = tt
firsts_run text before (d ∷ ds) h = ((let f = h 0 d refl in omega arith), firsts_run text (before + d.size) ds (run_tail before d ds h))

declared_within : (before : ℕ) (ds : List Declared) (first size : ℕ) → RunOn before ds → (k : ℕ) (r : Declared) → slice_index_or ds k r ≡ r → k < length ds → r.first ≡ first → r.size ≡ size → first + size ≤ before + members ds
declared_within before [] first size h k r g l e f = absurd (omega arith)
declared_within before (d ∷ ds) first size h zero r g l e f =
    let own = h 0 d refl in
    let total = sum_by-cons (λ (x : Declared). x.size) d ds in
    let a : d.first ≡ first = ap (λ (x : Declared). x.first) g ∙ e in
    let b : d.size ≡ size = ap (λ (x : Declared). x.size) g ∙ f in
    omega arith
declared_within before (d ∷ ds) first size h (suc k) r g l e f =
    let rest = declared_within (before + d.size) ds first size (run_tail before d ds h) k r g (omega arith) e f in
    let total = sum_by-cons (λ (x : Declared). x.size) d ds in
    omega arith

register_there : (text : List ℕ) (ds : List Declared) (first size : ℕ) → IsRegister ds first size → Any (IsOne first size) (map (register_in text) ds)
register_there text ds first size (k, r, l, g, p) = (k, register_in text r, subst (λ n. k < n) (sym (length-map ds (register_in text))) l, get_or-map (register_in text) ds k r (register_in text r) l ∙ ap (register_in text) g, p)

numbered_run : (ds : List Declared) → AreNumbered ds → RunOn 0 ds
numbered_run ds h k r e = let f = (h.each k r e).0 in omega arith

declared : (text : List ℕ) (ds : List Declared) → AreNumbered ds → IsDeclared (members ds) ds (map (register_in text) ds)
declared text ds h = record {
  bits_are = sym (bits_are text ds);
  all = refl;
  one = λ first size r. (register_there text ds first size r, (let w = declared_within 0 ds first size (numbered_run ds h) r.0 r.1 r.3 r.2 r.4.0 r.4.1 in omega arith));
}

-- ---- the circuit

pub axes_fit : (n high : ℕ) (registers : List Register) (is : List Item) → AllFit n high registers is → ByRecursion (λ i. OfLength n (axis_of i)) is
axes_fit n high registers [] h = tt
axes_fit n high registers (i ∷ is) h = (h.0.axis, axes_fit n high registers is h.1)

pub bits_fit : (n high : ℕ) (registers : List Register) (is : List Item) → AllFit n high registers is → ByRecursion (BitsBelow high) is
bits_fit n high registers [] h = tt
bits_fit n high registers (i ∷ is) h = (h.0.below, bits_fit n high registers is h.1)

pub reads_fit : (n high : ℕ) (registers : List Register) (is : List Item) → AllFit n high registers is → ByRecursion (ReadsWhole registers) is
reads_fit n high registers [] h = tt
reads_fit n high registers (i ∷ is) h = (h.0.whole, reads_fit n high registers is h.1)

pub letters_fit : (n high : ℕ) (registers : List Register) (is : List Item) → AllFit n high registers is → ByRecursion AxisHasLetter is
letters_fit n high registers [] h = tt
letters_fit n high registers (i ∷ is) h = (h.0.letter, letters_fit n high registers is h.1)

names_fit : (text : List ℕ) (ds : List Declared) → All (IsNamed text) ds → ByRecursion (λ r. IsOneLine r.name) (map (register_in text) ds)
names_fit text [] h = tt
names_fit text (d ∷ ds) h = ((All-head (IsNamed text) d ds h).one_line, names_fit text ds (All-tail (IsNamed text) d ds h))

pub program_formed : (text : List ℕ) (tree : Tree) → IsSound tree → All (IsPlaced tree) (flats_of tree) → HasNames text tree → WellFormed (circuit_of text tree)
unfolding circuit_of
program_formed text tree sound placed names =
    let n = members tree.quantum in
    let bits = members tree.classical in
    let registers = map (register_in text) tree.classical in
    let hidden = sum_by hidden_in (flats_of tree) in
    let items = items_from n bits (flats_of tree) in
    let known = declared text tree.classical sound.classical in
    let same : bits_in registers ≡ bits = bits_are text tree.classical in
    let fit : AllFit n (bits + hidden) registers items = all_fit tree bits (bits + hidden) registers (flats_of tree) placed known (omega arith) (omega arith) in
    record {
      few_qubits = sound.qubits;
      few_registers = (let l = length-map tree.classical (register_in text) in let f = names.few in omega arith);
      axes_fit = All-from_recursion (λ i. OfLength n (axis_of i)) items (axes_fit n (bits + hidden) registers items fit);
      names_fit = All-from_recursion (λ (r : Register). IsOneLine r.name) registers (names_fit text tree.classical names.named);
      firsts_run_on = firsts_run text 0 tree.classical (numbered_run tree.classical sound.classical);
      bits_fit = rw same (All-from_recursion (BitsBelow (bits + hidden)) items (bits_fit n (bits + hidden) registers items fit));
      reads_fit = All-from_recursion (ReadsWhole registers) items (reads_fit n (bits + hidden) registers items fit);
      hidden_in_order = rw same (all_order tree bits (bits + hidden) registers (flats_of tree) placed known (omega arith) refl);
    }

pub program_lettered : (text : List ℕ) (tree : Tree) → IsSound tree → All (IsPlaced tree) (flats_of tree) → All AxisHasLetter (circuit_of text tree).items
unfolding circuit_of
program_lettered text tree sound placed =
    let bits = members tree.classical in
    let high = bits + sum_by hidden_in (flats_of tree) in
    let registers = map (register_in text) tree.classical in
    let items = items_from (members tree.quantum) bits (flats_of tree) in
    All-from_recursion AxisHasLetter items (letters_fit (members tree.quantum) high registers items (all_fit tree bits high registers (flats_of tree) placed (declared text tree.classical sound.classical) (omega arith) (omega arith)))

-- ---- products

-- a gate under a condition is one that may stand there
if_count : (n : ℕ) (gate : Gate1) (q first size value : ℕ) (is : List Item) → is_conditional gate ≡ true → length (kinds (conditional_gate n gate q first size value ++ is)) ≡ if_products gate + length (kinds is)
if_count n ones.X q first size value is h = omega arith
if_count n ones.Y q first size value is h = omega arith
if_count n ones.Z q first size value is h = omega arith
if_count n ones.Id q first size value is h = omega arith
if_count n ones.H q first size value is h = absurd (cc)
if_count n ones.S q first size value is h = absurd (cc)
if_count n ones.Sdg q first size value is h = absurd (cc)
if_count n ones.Sx q first size value is h = absurd (cc)
if_count n ones.Sxdg q first size value is h = absurd (cc)
if_count n ones.T q first size value is h = absurd (cc)
if_count n ones.Tdg q first size value is h = absurd (cc)

one_count : (n : ℕ) (gate : Gate1) (q : ℕ) (is : List Item) → length (kinds (one_gate n gate q ++ is)) ≡ gate_products gate + length (kinds is)
one_count n ones.Id q is = omega arith
one_count n ones.X q is = omega arith
one_count n ones.Y q is = omega arith
one_count n ones.Z q is = omega arith
one_count n ones.H q is = omega arith
one_count n ones.S q is = omega arith
one_count n ones.Sdg q is = omega arith
one_count n ones.Sx q is = omega arith
one_count n ones.Sxdg q is = omega arith
one_count n ones.T q is = omega arith
one_count n ones.Tdg q is = omega arith

two_count : (n : ℕ) (gate : Gate2) (a b : ℕ) (is : List Item) → length (kinds (two_gate n gate a b ++ is)) ≡ length (kinds is)
two_count n twos.Cx a b is = refl
two_count n twos.Cy a b is = refl
two_count n twos.Cz a b is = refl

flat_count : (tree : Tree) (n next : ℕ) (f : Flat) (is : List Item) → IsPlaced tree f → length (kinds (flat_items n next f ++ is)) ≡ products f + length (kinds is)
flat_count tree n next (flats.Gate1 gate q) is h = one_count n gate q is
flat_count tree n next (flats.Gate2 gate a b) is h = let e = two_count n gate a b is in omega arith
flat_count tree n next (flats.Measure q bit) is h = omega arith
flat_count tree n next (flats.Reset q) is h = omega arith
flat_count tree n next (flats.If gate q first size value) is h = if_count n gate q first size value is h.2

all_count : (tree : Tree) (n next : ℕ) (fs : List Flat) → All (IsPlaced tree) fs → length (kinds (items_from n next fs)) ≡ sum_by products fs
all_count tree n next [] h = ap (λ is. length (kinds is)) (items_end n next)
all_count tree n next (f ∷ fs) h =
    let total = sum_by-cons products f fs in
    let own = ap (λ is. length (kinds is)) (items_next n next f fs) in
    let rest = all_count tree n (next + hidden_in f) fs (All-tail (IsPlaced tree) f fs h) in
    let here = flat_count tree n next f (items_from n (next + hidden_in f) fs) (All-head (IsPlaced tree) f fs h) in
    omega arith

-- where no statement passes something, all of them together don't
none_passes : (pass : List Statement → Bool) (before : List Statement) (s : Statement) (ss : List Statement) → passing_from pass before (s ∷ ss) ≡ None → pass (before ++ s ∷ ss) ≡ false
unfolding passing_from
none_passes pass before s [] e = by_test (pass (before ++ s ∷ [])) refl e
  where
    by_test : (b : Bool) → pass (before ++ s ∷ []) ≡ b → cond b (Some (line_of s)) None ≡ None → pass (before ++ s ∷ []) ≡ false
    by_test true d f = absurd (cc)
    by_test false d f = d
none_passes pass before s (t ∷ ss) e = by_test (pass (before ++ s ∷ [])) (none_passes pass (before ++ s ∷ []) t ss) e
  where
    by_test : (b : Bool) → (passing_from pass (before ++ s ∷ []) (t ∷ ss) ≡ None → pass ((before ++ s ∷ []) ++ t ∷ ss) ≡ false) → cond b (Some (line_of s)) (passing_from pass (before ++ s ∷ []) (t ∷ ss)) ≡ None → pass (before ++ s ∷ t ∷ ss) ≡ false
    by_test true on f = absurd (cc)
    by_test false on f = ap pass (sym (append_assoc before (s ∷ []) (t ∷ ss))) ∙ on f

products_few : (tree : Tree) (ss : List Statement) → passing_from (is_past tree) [] ss ≡ None → product_count tree ss ≤ 16384
unfolding is_past
products_few tree [] e = omega arith
products_few tree (s ∷ ss) e =
    let count = product_count tree (s ∷ ss) in
    let past = or_parts (nat_lt 262144 (limits.flat_count tree (s ∷ ss))) (nat_lt 16384 count) (none_passes (is_past tree) [] s ss e) in
    ltb-false 16384 count past.1

pub program_few : (text : List ℕ) (tree : Tree) → All (IsPlaced tree) (flats_of tree) → passing tree ≡ None → length (kinds (circuit_of text tree).items) ≤ 16384
unfolding circuit_of flats_of
program_few text tree placed within =
    let e = all_count tree (members tree.quantum) (members tree.classical) (flats_of tree) placed in
    let few = products_few tree tree.statements within in
    subst (λ n. n ≤ 16384) (sym e) few
