-- Parities of clashes, and columns.
use Rattle.std.proofs.Common.{◌≡◌, ℕ, zero, suc, ◌+◌, ◌%◌, ◌==◌, ◌<◌, Bool, true, false, not, ◌&&◌, if◌then◌else◌, inl, inr, nat_lt, List, [], ◌∷◌, length, take, get_or, set, refl, ap, sym, ◌∙◌, arith, add-one, get_or-set_same, get_or-set_other}
use Rattle.std.proofs.lemmas.Bool.{cases_Bool, eqb-false, eqb-true}
use Rattle.std.proofs.lemmas.Bool.Decides.{nat_tests}
use Rattle.std.proofs.lemmas.List.{length-set}
use Rattle.pauli_product.specs.declared.Letter.{Letter}
use Rattle.pauli_product.specs.declared.Letter.TheVariants.{I, X, Z}
use Rattle.pauli_product.specs.Letters.{letters_clash}
use Rattle.pauli_product.specs.Signed.{Signed, plus, clashes, commute}
use Rattle.pauli_product.specs.Corrections.{xor}
use Rattle.commute_order.specs.inside.Columns.{letter_in, IsColumns, clash_bit}

-- an odd number of clashes
abbrev pub odd : List Letter → List Letter → Bool
odd as' bs = clashes as' bs % 2 == 1

pub odd_commute : (p q : Signed) → odd p.letters q.letters ≡ not (commute p q)
unfolding commute
odd_commute p q = parity (clashes p.letters q.letters)
  where
    parity : (n : ℕ) → (n % 2 == 1) ≡ not (n % 2 == 0)
    parity n = grind (arith, nat_tests)

clashes_next : (q : ℕ) (as' bs : List Letter) → q < length as' → q < length bs → clashes (take (suc q) as') (take (suc q) bs) ≡ clashes (take q as') (take q bs) + (if letters_clash (get_or as' q I) (get_or bs q I) then 1 else 0)
clashes_next q [] bs h k = absurd (omega arith)
clashes_next q (a ∷ as') [] h k = absurd (omega arith)
clashes_next zero (a ∷ as') (b ∷ bs) h k = omega arith
clashes_next (suc q) (a ∷ as') (b ∷ bs) h k = omega (arith, clashes_next q as' bs (omega arith) (omega arith))

odd_more : (n : ℕ) (b : Bool) → ((n + (if b then 1 else 0)) % 2 == 1) ≡ xor (n % 2 == 1) b
odd_more n true = grind (arith, nat_tests)
odd_more n false = grind (arith, nat_tests)

odd_next : (q : ℕ) (as' bs : List Letter) → q < length as' → q < length bs → odd (take (suc q) as') (take (suc q) bs) ≡ xor (odd (take q as') (take q bs)) (letters_clash (get_or as' q I) (get_or bs q I))
odd_next q as' bs h k = ap (λ n. n % 2 == 1) (clashes_next q as' bs h k) ∙ odd_more (clashes (take q as') (take q bs)) (letters_clash (get_or as' q I) (get_or bs q I))

both_letters : (l m : Letter) → clash_bit l (letters_clash X m) (letters_clash Z m) ≡ letters_clash m l
both_letters l m = grind arith

below_true : (j n : ℕ) (b : Bool) → j < n → nat_lt j n && b ≡ b
below_true j n b h = grind (arith, nat_tests)

pub xor_twice : (r a b : Bool) → xor (xor r a) b ≡ xor r (xor a b)
xor_twice r a b = grind arith

-- one more letter of the last product
pub next_mark : (ps : List Signed) (count n len : ℕ) (x z : List (List Bool)) (letters : List Letter) (l : Letter) (q j : ℕ) (was now : Bool)
    → IsColumns X ps count n len x → IsColumns Z ps count n len z → length letters ≡ n → length (get_or ps j (plus [])).letters ≡ n → q < n → j < count → j < len → get_or letters q I ≡ l
    → was ≡ odd (take q (get_or ps j (plus [])).letters) (take q letters)
    → now ≡ xor was (clash_bit l (get_or (get_or x q []) j false) (get_or (get_or z q []) j false))
    → now ≡ odd (take (q + 1) (get_or ps j (plus [])).letters) (take (q + 1) letters)
next_mark ps count n len x z letters l q j was now cx cz size long h below room e before step =
    let own = (get_or ps j (plus [])).letters in
    let m = get_or own q I in
    let bx : get_or (get_or x q []) j false ≡ letters_clash X m = cx.bit q j h room ∙ below_true j count (letters_clash X m) below in
    let bz : get_or (get_or z q []) j false ≡ letters_clash Z m = cz.bit q j h room ∙ below_true j count (letters_clash Z m) below in
    step
    ∙ (λ i. xor (before i) (clash_bit l (bx i) (bz i)))
    ∙ ap (xor (odd (take q own) (take q letters))) (both_letters l m ∙ ap (letters_clash m) (sym e))
    ∙ sym (odd_next q own letters (omega arith) (omega arith))
    ∙ ap (λ k. odd (take k own) (take k letters)) (sym (add-one q))

-- a column's bits with one more product
more_bits : (against : Letter) (m : ℕ → Letter) (p len : ℕ) (column new : List Bool) → p < len → length column ≡ len
    → ((j : ℕ) → j < len → get_or column j false ≡ (nat_lt j p && letters_clash against (m j)))
    → (b : Bool) → letters_clash against (m p) ≡ b → new ≡ (if b then set column p true else column)
    → (j : ℕ) → j < len → get_or new j false ≡ (nat_lt j (p + 1) && letters_clash against (m j))
more_bits against m p len column new within long bits b e f j l =
    elim (cases_Bool (j == p)) [
      | inl same ↦
          let at : j ≡ p = eqb-true _ _ same in
          ap (λ k. get_or new k false) at ∙ here b e f ∙ ap (λ k. nat_lt k (p + 1) && letters_clash against (m k)) (sym at)
      | inr other ↦
          let apart = eqb-false _ _ other in
          elsewhere b f apart ∙ bits j l ∙ earlier j (letters_clash against (m j)) apart
    ]
  where
    earlier : (j : ℕ) (c : Bool) → (j ≡ p → ⊥) → (nat_lt j p && c) ≡ (nat_lt j (p + 1) && c)
    earlier j c ne = grind (arith, nat_tests)

    none_yet : (c : Bool) → (nat_lt p p && c) ≡ false
    none_yet c = grind (arith, nat_tests)

    now_there : (c d : Bool) → c ≡ d → d ≡ (nat_lt p (p + 1) && c)
    now_there c d e = grind (arith, nat_tests)

    here : (b : Bool) → letters_clash against (m p) ≡ b → new ≡ (if b then set column p true else column) → get_or new p false ≡ (nat_lt p (p + 1) && letters_clash against (m p))
    here true e f = ap (λ (c : List Bool). get_or c p false) f ∙ get_or-set_same column p true false (omega arith) ∙ now_there (letters_clash against (m p)) true e
    here false e f = ap (λ (c : List Bool). get_or c p false) f ∙ bits p within ∙ none_yet (letters_clash against (m p)) ∙ now_there (letters_clash against (m p)) false e

    elsewhere : (b : Bool) → new ≡ (if b then set column p true else column) → (j ≡ p → ⊥) → get_or new j false ≡ get_or column j false
    elsewhere true f ne = ap (λ (c : List Bool). get_or c j false) f ∙ get_or-set_other column p j true false ne
    elsewhere false f ne = ap (λ (c : List Bool). get_or c j false) f

-- columns with one more product
pub added : (against : Letter) (ps : List Signed) (p n len : ℕ) (old new : List (List Bool)) → p < len → IsColumns against ps p n len old → length new ≡ n
    → ((q : ℕ) → q < n → get_or new q [] ≡ (if letters_clash against (letter_in ps p q) then set (get_or old q []) p true else get_or old q []))
    → IsColumns against ps (p + 1) n len new
added against ps p n len old new within c size h = record {
  size = size;
  long = λ q k. ap length (h q k) ∙ same_length (letters_clash against (letter_in ps p q)) (get_or old q []) (c.long q k);
  bit = λ q j k l. more_bits against (λ i. letter_in ps i q) p len (get_or old q []) (get_or new q []) within (c.long q k) (λ i m. c.bit q i k m) (letters_clash against (letter_in ps p q)) refl (h q k) j l;
}
  where
    same_length : (b : Bool) (column : List Bool) → length column ≡ len → length (if b then set column p true else column) ≡ len
    same_length true column e = length-set column p true ∙ e
    same_length false column e = e

pub none_before : (j : ℕ) (b : Bool) → false ≡ (nat_lt j 0 && b)
none_before j b = grind (arith, nat_tests)
