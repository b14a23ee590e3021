-- Registers that a product list declares one after another, and how they are found.
use Rattle.std.proofs.Common.{◌≡◌, ℕ, ◌+◌, ◌-◌, ◌<◌, ◌≤◌, ◌==◌, ◌&&◌, nat_le, nat_lt, cond, Bool, true, false, IsTrue, List, [], ◌∷◌, ◌++◌, length, Some, None, refl, sym, ◌∙◌, ap, subst, arith, append_assoc, append-nil, inl, inr, zero, suc, slice_index_or}
use Rattle.std.specs.Prelude.{find, Any}
use Rattle.std.specs.Str.{bytes_eq}
use Rattle.std.proofs.lemmas.Bool.{cases_lt, false≢true, eq-eqb, ne_eqb, le-leb, lt-ltb, le-ltb, and_parts, and_from, eqb-true}
use Rattle.std.proofs.lemmas.Slice.Eq.{bytes_eq-Decides}
use Rattle.std.proofs.lemmas.List.Sums.{sum_by-append, sum_by-cons}
use Rattle.std.proofs.lemmas.List.Folds.{find-append}
use Rattle.patch_base.specs.Names.{is_name}
use Rattle.source_model.specs.declared.Register.{Register}
use Rattle.source_model.specs.Circuits.{bits_in}
use Rattle.product_list.specs.ListText.{named}
use Rattle.product_list.specs.Printed.{register_with, register_of}
use Rattle.product_list.specs.Listable.{AreDeclared, IsNext}

pub declared_more : (before rs : List Register) (r : Register) → AreDeclared before rs → IsNext (before ++ rs) r → AreDeclared before (rs ++ r ∷ [])
declared_more before [] r h n = (let P : List Register → Type 0 = λ b. IsNext b r in subst P (append-nil before) n, tt)
declared_more before (x ∷ xs) r h n = (h.0, declared_more (before ++ x ∷ []) xs r h.1 (let P : List Register → Type 0 = λ b. IsNext b r in subst P (sym (append_assoc before (x ∷ []) xs)) n))

pub bits_more : (rs : List Register) (r : Register) → bits_in (rs ++ r ∷ []) ≡ bits_in rs + r.size
bits_more rs r = let whole = sum_by-append (λ (x : Register). x.size) rs (r ∷ []) in let last = sum_by-cons (λ (x : Register). x.size) r [] in omega arith

-- ---- the register of a name

own_name : (x : Register) (xs : List Register) → named (x ∷ xs) x.name ≡ Some x
own_name x xs = let same : bytes_eq x.name x.name ≡ true = (bytes_eq-Decides x.name x.name).1 refl in rw same refl

named_behind : (before rs : List Register) (name : List ℕ) → named before name ≡ None → named (before ++ rs) name ≡ named rs name
named_behind before rs name none = find-append (λ (r : Register). bytes_eq r.name name) before rs ∙ rw none refl

-- a register that is found is the one of its name
pub named_found : (p : Register → Bool) (before rs : List Register) (r : Register) → AreDeclared before rs → find p rs ≡ Some r → named (before ++ rs) r.name ≡ Some r
named_found p before [] r h e = absurd (cc)
named_found p before (x ∷ xs) r h e = by_test (p x) (λ f. named_found p (before ++ x ∷ []) xs r h.1 f) e
  where
    by_test : (b : Bool) → (find p xs ≡ Some r → named ((before ++ x ∷ []) ++ xs) r.name ≡ Some r) → cond b (Some x) (find p xs) ≡ Some r → named (before ++ x ∷ xs) r.name ≡ Some r
    by_test true on f =
        let same : x ≡ r = cc in
        let P : Register → Type 0 = λ y. named (before ++ x ∷ xs) y.name ≡ Some y in
        subst P same (named_behind before (x ∷ xs) x.name h.0.apart ∙ own_name x xs)
    by_test false on f = ap (λ all. named all r.name) (sym (append_assoc before (x ∷ []) xs)) ∙ on f

-- a register that is found has a name
pub found_name : (p : Register → Bool) (before rs : List Register) (r : Register) → AreDeclared before rs → find p rs ≡ Some r → IsTrue (is_name r.name)
found_name p before [] r h e = absurd (cc)
found_name p before (x ∷ xs) r h e = by_test (p x) (λ f. found_name p (before ++ x ∷ []) xs r h.1 f) e
  where
    by_test : (b : Bool) → (find p xs ≡ Some r → IsTrue (is_name r.name)) → cond b (Some x) (find p xs) ≡ Some r → IsTrue (is_name r.name)
    by_test true on f =
        let same : x ≡ r = cc in
        let P : Register → Type 0 = λ y. IsTrue (is_name y.name) in
        subst P same h.0.name
    by_test false on f = on f

-- ---- the register with a bit

-- the register with a bit, and the place of the bit in it
pub record HasBit (rs : List Register) (bit : ℕ) : Type 0 where
  pub register : Register
  pub found : register_with rs bit ≡ Some register
  pub from : register.first ≤ bit
  pub within : bit - register.first < register.size
  pub small : register.size ≤ 16384

has_bit : Register → ℕ → Bool
has_bit r bit = nat_le r.first bit && nat_lt (bit - r.first) r.size

pub bit_there : (before rs : List Register) (bit : ℕ) → AreDeclared before rs → bits_in before ≤ bit → bit < bits_in before + bits_in rs → HasBit rs bit
bit_there before [] bit h low high = absurd (omega arith)
bit_there before (x ∷ xs) bit h low high = elim (cases_lt bit (bits_in before + x.size)) [
  | inl here ↦
      let first = h.0.first in
      let bits = h.0.bits in
      let from : x.first ≤ bit = omega arith in
      let within : bit - x.first < x.size = omega arith in
      let a : nat_le x.first bit ≡ true = le-leb x.first bit from in
      let b : nat_lt (bit - x.first) x.size ≡ true = lt-ltb (bit - x.first) x.size within in
      record { register = x; found = rw (a, b) refl; from = from; within = within; small = omega arith }
  | inr later ↦
      let first = h.0.first in
      let more = bits_more before x in
      let total = sum_by-cons (λ (y : Register). y.size) x xs in
      let rest = bit_there (before ++ x ∷ []) xs bit h.1 (omega arith) (omega arith) in
      let past : nat_lt (bit - x.first) x.size ≡ false = le-ltb (bit - x.first) x.size (omega arith) in
      record { register = rest.register; found = passed_over (nat_le x.first bit) past rest.found; from = rest.from; within = rest.within; small = rest.small }
]
  where
    passed_over : (a : Bool) {r : Register} → nat_lt (bit - x.first) x.size ≡ false → register_with xs bit ≡ Some r → cond (a && nat_lt (bit - x.first) x.size) (Some x) (register_with xs bit) ≡ Some r
    passed_over true e f = rw e f
    passed_over false e f = f

-- a bit after all registers is in none
pub bit_nowhere : (before rs : List Register) (bit : ℕ) → AreDeclared before rs → bits_in before + bits_in rs ≤ bit → register_with rs bit ≡ None
bit_nowhere before [] bit h past = refl
bit_nowhere before (x ∷ xs) bit h past =
    let first = h.0.first in
    let more = bits_more before x in
    let total = sum_by-cons (λ (y : Register). y.size) x xs in
    let e : nat_lt (bit - x.first) x.size ≡ false = le-ltb (bit - x.first) x.size (omega arith) in
    passed_over (nat_le x.first bit) e (bit_nowhere (before ++ x ∷ []) xs bit h.1 (omega arith))
  where
    passed_over : (a : Bool) → nat_lt (bit - x.first) x.size ≡ false → register_with xs bit ≡ None → cond (a && nat_lt (bit - x.first) x.size) (Some x) (register_with xs bit) ≡ None
    passed_over true e f = rw e f
    passed_over false e f = f

-- ---- the register of a condition

pub record HasSpan (rs : List Register) (first size : ℕ) : Type 0 where
  pub register : Register
  pub found : register_of rs first size ≡ Some register
  pub same_first : register.first ≡ first
  pub same_size : register.size ≡ size

abbrev pub IsOne : ℕ → ℕ → Register → Type 0
IsOne first size r = (r.first ≡ first) × (r.size ≡ size)

pub span_there : (rs : List Register) (first size : ℕ) → Any (IsOne first size) rs → HasSpan rs first size
span_there [] first size h = let few = h.2 in absurd (omega arith)
span_there (x ∷ xs) first size h = by_test (x.first == first && x.size == size) (λ a. span_there xs first size a) refl h
  where
    later : (k : ℕ) (r : Register) → k < length (x ∷ xs) → slice_index_or (x ∷ xs) k r ≡ r → IsOne first size r → (x.first == first && x.size == size) ≡ false → Any (IsOne first size) xs
    later zero r l g one e =
        let same : x ≡ r = g in
        let a : x.first ≡ first = ap (λ (y : Register). y.first) same ∙ one.0 in
        let b : x.size ≡ size = ap (λ (y : Register). y.size) same ∙ one.1 in
        absurd (false≢true (sym e ∙ and_from (x.first == first) (x.size == size) (eq-eqb x.first first a) (eq-eqb x.size size b)))
    later (suc k) r l g one e = (k, r, omega arith, g, one)

    by_test : (b : Bool) → (Any (IsOne first size) xs → HasSpan xs first size) → (x.first == first && x.size == size) ≡ b → Any (IsOne first size) (x ∷ xs) → HasSpan (x ∷ xs) first size
    by_test true on e a =
        let p = and_parts (x.first == first) (x.size == size) e in
        record { register = x; found = rw e refl; same_first = eqb-true x.first first p.0; same_size = eqb-true x.size size p.1 }
    by_test false on e a =
        let rest = on (later a.0 a.1 a.2 a.3 a.4 e) in
        record { register = rest.register; found = rw e rest.found; same_first = rest.same_first; same_size = rest.same_size }

-- bits after all registers are no register's
pub span_nowhere : (before rs : List Register) (first size : ℕ) → AreDeclared before rs → bits_in before + bits_in rs ≤ first → register_of rs first size ≡ None
span_nowhere before [] first size h past = refl
span_nowhere before (x ∷ xs) first size h past =
    let own = h.0.first in
    let some = h.0.some in
    let more = bits_more before x in
    let total = sum_by-cons (λ (y : Register). y.size) x xs in
    let e : (x.first == first) ≡ false = ne_eqb x.first first (λ s. absurd (omega arith)) in
    rw e (span_nowhere (before ++ x ∷ []) xs first size h.1 (omega arith))
