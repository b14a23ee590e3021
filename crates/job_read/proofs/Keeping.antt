-- What a job keeps follows from its circuit.
use Rattle.std.proofs.Common.{Bool, ◌≡◌, ◌≢◌, ℕ, zero, suc, ◌<◌, ◌≤◌, ◌||◌, ◌&&◌, true, false, List, [], ◌∷◌, ◌++◌, length, map, slice_get, Some, All, IsTrue, inl, inr, refl, ap, sym, ◌∙◌, subst, arith}
use Rattle.std.specs.List.{list_any, range_with_len, slice_index_or}
use Rattle.std.proofs.lemmas.Bool.{cases_lt, or_cases, and_parts, false≢true}
use Rattle.std.proofs.lemmas.List.{get_or_past, length-map}
use Rattle.std.proofs.lemmas.List.FromFn.{get_or-map-range_with_len, length-map-range_with_len}
use Rattle.std.proofs.lemmas.Option.{same_Some, none-some, slice_get-get_or}
use Rattle.std.proofs.lemmas.List.Elements.{All-nil, All-cons, All-head, All-tail, All-append}
use Rattle.pauli_product.specs.declared.Letter.{Letter}
use Rattle.pauli_product.specs.declared.Letter.TheVariants.{I, X, Y, Z}
use Rattle.pauli_product.specs.Signed.{Signed, OfLength, IsNotIdentity}
use Rattle.pauli_product.specs.Pulls.{Angle, Turn, turn, quarter, half, pull, TurnsOfLength}
use Rattle.pauli_product.proofs.Laws.{pull_length, pull_letters}
use Rattle.source_model.specs.declared.Angle.TheVariants.{Eighth, Quarter, Half}
use Rattle.source_model.specs.declared.Item.{Item}
use Rattle.source_model.specs.declared.Item.TheVariants as item
use Rattle.source_model.specs.declared.Kind.{Kind}
use Rattle.source_model.specs.declared.Kind.TheVariants as kind
use Rattle.source_model.specs.declared.Static.{Static}
use Rattle.source_model.specs.SourceRun.{axis_of}
use Rattle.source_model.specs.Circuits.{AxesOfLength, kinds}
use Rattle.source_model.specs.Statics.{statics_from, kinds_of}
use Rattle.source_model.specs.Used.{acts, acts_at, is_used, takes_region, UsedBy}
use Rattle.rotation_list.specs.Needs.{is_rotation}
use Rattle.patch_layout.specs.Row.{IsUsed}
use Rattle.job_read.specs.Kept.{HaveLetters}
use Rattle.job_read.specs.Stages.{demand_of}

-- ---- letters
abbrev LetterAt : List Letter → ℕ → Type 0
LetterAt ls q = (l : Letter) × (slice_get ls q ≡ Some l) × (l ≢ I)

abbrev LetterIn : List Letter → Type 0
LetterIn ls = (q : ℕ) × LetterAt ls q

one_later : (a : Letter) (ls : List Letter) → LetterIn ls → LetterIn (a ∷ ls)
one_later a ls x = (suc x.0, x.1)

letter_at : (ls : List Letter) (q : ℕ) → acts (slice_index_or ls q I) ≡ true → LetterIn ls
letter_at [] zero e = absurd (false≢true e)
letter_at [] (suc q) e = absurd (false≢true e)
letter_at (I ∷ ls) zero e = absurd (false≢true e)
letter_at (X ∷ ls) zero e = (0, (X, refl, λ s. cc))
letter_at (Y ∷ ls) zero e = (0, (Y, refl, λ s. cc))
letter_at (Z ∷ ls) zero e = (0, (Z, refl, λ s. cc))
letter_at (a ∷ ls) (suc q) e = one_later a ls (letter_at ls q e)

-- an item acts on some qubit
abbrev Acts : Item → Type 0
Acts i = (q : ℕ) × IsTrue (acts_at (axis_of i) q)

abbrev Lettered : Static → Type 0
Lettered s = IsNotIdentity s.axis

pulled : (ts : List Turn) (axis : Signed) (k : Kind) (i : Item) (is : List Item) → axis_of i ≡ axis → All Acts (i ∷ is) → Lettered (record { axis = pull ts axis; kind = k })
pulled ts axis k i is e h =
    let x = All-head Acts i is h in
    let acting : acts_at axis x.0 ≡ true = ap (λ (a : Signed). acts_at a x.0) (sym e) ∙ x.1 in
    pull_letters ts axis (letter_at axis.letters x.0 acting)

first_or_later : (s : Static) (ss : List Static) → Lettered s → HaveLetters ss → HaveLetters (s ∷ ss)
first_or_later s ss here later zero t e = subst Lettered (same_Some s t e) here
first_or_later s ss here later (suc p) t e = later p t e

letters_from : (ts : List Turn) (is : List Item) → All Acts is → HaveLetters (statics_from ts is)
letters_from ts [] h = λ p s e. absurd (none-some s e)
letters_from ts (item.Turn axis Eighth ∷ is) h = first_or_later _ _ (pulled ts axis kind.Rotation (item.Turn axis Eighth) is refl h) (letters_from ts is (All-tail Acts (item.Turn axis Eighth) is h))
letters_from ts (item.Turn axis Quarter ∷ is) h = letters_from (ts ++ turn axis quarter ∷ []) is (All-tail Acts (item.Turn axis Quarter) is h)
letters_from ts (item.Turn axis Half ∷ is) h = letters_from (ts ++ turn axis half ∷ []) is (All-tail Acts (item.Turn axis Half) is h)
letters_from ts (item.Measure axis bit ∷ is) h = first_or_later _ _ (pulled ts axis (kind.Measure bit) (item.Measure axis bit) is refl h) (letters_from ts is (All-tail Acts (item.Measure axis bit) is h))
letters_from ts (item.If axis first size value ∷ is) h = first_or_later _ _ (pulled ts axis (kind.Settle first size value) (item.If axis first size value) is refl h) (letters_from ts is (All-tail Acts (item.If axis first size value) is h))

pub have_letters : (is : List Item) → All (λ i. (q : ℕ) × IsTrue (acts_at (axis_of i) q)) is → HaveLetters (statics_from [] is)
have_letters is h = letters_from [] is h

-- ---- lengths
abbrev Long : ℕ → Static → Type 0
Long n s = OfLength n s.axis

longer : (n : ℕ) (ts : List Turn) (axis : Signed) (a : Angle) → TurnsOfLength n ts → OfLength n axis → TurnsOfLength n (ts ++ turn axis a ∷ [])
longer n ts axis a t e = All-append (λ (t : Turn). OfLength n t.axis) ts (turn axis a ∷ []) t (All-cons (λ (t : Turn). OfLength n t.axis) (turn axis a) [] e (All-nil (λ (t : Turn). OfLength n t.axis)))

head_long : (n : ℕ) (i : Item) (is : List Item) → AxesOfLength n (i ∷ is) → OfLength n (axis_of i)
head_long n i is h = All-head (λ (i : Item). OfLength n (axis_of i)) i is h

tail_long : (n : ℕ) (i : Item) (is : List Item) → AxesOfLength n (i ∷ is) → AxesOfLength n is
tail_long n i is h = All-tail (λ (i : Item). OfLength n (axis_of i)) i is h

long_from : (n : ℕ) (ts : List Turn) (is : List Item) → TurnsOfLength n ts → AxesOfLength n is → All (Long n) (statics_from ts is)
long_from n ts [] t h = All-nil (Long n)
long_from n ts (item.Turn axis Eighth ∷ is) t h =
    All-cons (Long n) _ _ (pull_length n ts axis t (head_long n (item.Turn axis Eighth) is h)) (long_from n ts is t (tail_long n (item.Turn axis Eighth) is h))
long_from n ts (item.Turn axis Quarter ∷ is) t h =
    long_from n (ts ++ turn axis quarter ∷ []) is (longer n ts axis quarter t (head_long n (item.Turn axis Quarter) is h)) (tail_long n (item.Turn axis Quarter) is h)
long_from n ts (item.Turn axis Half ∷ is) t h =
    long_from n (ts ++ turn axis half ∷ []) is (longer n ts axis half t (head_long n (item.Turn axis Half) is h)) (tail_long n (item.Turn axis Half) is h)
long_from n ts (item.Measure axis bit ∷ is) t h =
    All-cons (Long n) _ _ (pull_length n ts axis t (head_long n (item.Measure axis bit) is h)) (long_from n ts is t (tail_long n (item.Measure axis bit) is h))
long_from n ts (item.If axis first size value ∷ is) t h =
    All-cons (Long n) _ _ (pull_length n ts axis t (head_long n (item.If axis first size value) is h)) (long_from n ts is t (tail_long n (item.If axis first size value) is h))

pub axes_long : (n : ℕ) (is : List Item) → AxesOfLength n is → All (λ s. OfLength n s.axis) (statics_from [] is)
axes_long n is h = long_from n [] is (All-nil (λ (t : Turn). OfLength n t.axis)) h

-- ---- what is asked of a layout
acts_below : (n : ℕ) (p : Signed) (q : ℕ) → OfLength n p → acts_at p q ≡ true → q < n
acts_below n p q long act =
    elim (cases_lt q n) [
      | inl lt ↦ lt
      | inr ge ↦ let past : length p.letters ≤ q = omega arith in absurd (false≢true (sym (ap acts (get_or_past p.letters q I past)) ∙ act))
    ]

used_below : (n : ℕ) (ss : List Static) (q : ℕ) → All (λ s. OfLength n s.axis) ss → is_used ss q ≡ true → q < n
used_below n [] q h used = absurd (false≢true used)
used_below n (s ∷ ss) q h used =
    elim (or_cases (takes_region s.kind && acts_at s.axis q) (is_used ss q) used) [
      | inl here ↦ acts_below n s.axis q (All-head (Long n) s ss h) (and_parts (takes_region s.kind) (acts_at s.axis q) here).1
      | inr later ↦ used_below n ss q (All-tail (Long n) s ss h) later
    ]

pub all_used : (n : ℕ) (ss : List Static) → All (λ s. OfLength n s.axis) ss → (q : ℕ) → UsedBy ss q → IsUsed (demand_of n ss).used q
all_used n ss h q used =
    let below : q < n = used_below n ss q h used in
    let within : q < length (map (is_used ss) (range_with_len 0 n)) = let l = length-map-range_with_len (is_used ss) 0 n in omega arith in
    slice_get-get_or (map (is_used ss) (range_with_len 0 n)) q false within
    ∙ ap Some (get_or-map-range_with_len (is_used ss) 0 n q q false below (omega arith) ∙ used)

rotation_is : (s : Static) → s.kind ≡ kind.Rotation → is_rotation s ≡ true
rotation_is s e = go s.kind e
  where
    go : (k : Kind) → k ≡ kind.Rotation → is_rotation (record { axis = s.axis; kind = k }) ≡ true
    go kind.Rotation e = refl
    go (kind.Measure bit) e = absurd (cc)
    go (kind.Settle first size value) e = absurd (cc)

or_later : (b c : Bool) → c ≡ true → (b || c) ≡ true
or_later true c e = refl
or_later false c e = e

pub has_rotations : (ss : List Static) (p : ℕ) (s : Static) → slice_get ss p ≡ Some s → s.kind ≡ kind.Rotation → list_any is_rotation ss ≡ true
has_rotations [] p s at e = absurd (none-some s at)
has_rotations (t ∷ ss) zero s at e = let h : is_rotation t ≡ true = rotation_is t (ap (λ (x : Static). x.kind) (same_Some t s at) ∙ e) in rw h
has_rotations (t ∷ ss) (suc p) s at e = or_later (is_rotation t) (list_any is_rotation ss) (has_rotations ss p s at e)

-- ---- how many products
pub as_many : (products : List Static) (items : List Item) → kinds_of products ≡ kinds items → length products ≡ length (kinds items)
as_many products items e = sym (length-map products (λ (s : Static). s.kind)) ∙ ap length e
