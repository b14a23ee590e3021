-- What conjugation keeps: commutation, other conjugations, and lengths.
use Rattle.std.proofs.Common.{◌≡◌, ◌≢◌, ℕ, ◌+◌, ◌%◌, ◌<◌, ◌≤◌, ◌==◌, inl, inr, Bool, true, false, not, if◌then◌else◌, List, length, refl, ap, sym, ◌∙◌, arith, eq-eqb, eqb-true, ne_eqb}
use Rattle.std.proofs.lemmas.Bool.{cases_Bool, eqb-false}
use Rattle.std.proofs.lemmas.Bool.Decides.{nat_tests}
use Rattle.pauli_product.specs.declared.Letter.{Letter}
use Rattle.pauli_product.specs.Signed.{Signed, letters_product, letters_phase, clashes, commute, sign_phase, phase}
use Rattle.pauli_product.specs.Pulls.{Angle, quarter, half, i_times, negated, moved, conj}
use Rattle.pauli_product.proofs.LetterLaws.{length_product, product_assoc, product_comm, product_square, phase_cocycle, phase_swap, phase_undone, phase_parity, clashes_swap, clashes_product, clashes_self, clashes_same}

-- ---- commutation as a parity
pub even_from_commute : (p q : Signed) → commute p q ≡ true → clashes p.letters q.letters % 2 ≡ 0
unfolding commute
even_from_commute p q e = eqb-true _ _ e

pub odd_from_commute : (p q : Signed) → commute p q ≡ false → clashes p.letters q.letters % 2 ≡ 1
unfolding commute
odd_from_commute p q e = let n : clashes p.letters q.letters % 2 ≢ 0 = eqb-false _ _ e in omega arith

pub commute_from_even : (p q : Signed) → clashes p.letters q.letters % 2 ≡ 0 → commute p q ≡ true
unfolding commute
commute_from_even p q e = eq-eqb _ _ e

pub commute_from_odd : (p q : Signed) → clashes p.letters q.letters % 2 ≡ 1 → commute p q ≡ false
unfolding commute
commute_from_odd p q e = ne_eqb _ _ (λ z. absurd (omega arith))

pub commute_swap : (p q : Signed) → commute p q ≡ commute q p
unfolding commute
commute_swap p q = ap (λ n. n % 2 == 0) (clashes_swap p.letters q.letters)

pub commute_self : (p : Signed) → commute p p ≡ true
commute_self p = commute_from_even p p (omega (arith, clashes_same p.letters))

-- two pairs with clashes of one parity
pub same_commute : (p q r s : Signed) → clashes p.letters q.letters % 2 ≡ clashes r.letters s.letters % 2 → commute p q ≡ commute r s
unfolding commute
same_commute p q r s e = ap (λ n. n == 0) e

-- ---- the two cases of a conjugation
pub conj_commuting : (q : Signed) (a : Angle) (p : Signed) → commute q p ≡ true → conj q a p ≡ p
unfolding conj
conj_commuting q a p e = ap (λ b. if b then p else moved q a p) e

pub conj_moved : (q : Signed) (a : Angle) (p : Signed) → commute q p ≡ false → conj q a p ≡ moved q a p
unfolding conj
conj_moved q a p e = ap (λ b. if b then p else moved q a p) e

-- ---- signs as powers of i
same_sign : (a b : Bool) → sign_phase a ≡ sign_phase b → a ≡ b
same_sign true true e = refl
same_sign true false e = absurd (omega arith)
same_sign false true e = absurd (omega arith)
same_sign false false e = refl

pub same_signed : (p q : Signed) → sign_phase p.sign ≡ sign_phase q.sign → p.letters ≡ q.letters → p ≡ q
same_signed p q e f = let s = same_sign p.sign q.sign e in λ i. record { sign = s i; letters = f i }

pub sign_even : (b : Bool) → (sign_phase b % 2 ≡ 0) × (sign_phase b ≤ 2)
sign_even true = omega arith
sign_even false = omega arith

pub sign_not : (b : Bool) → sign_phase (not b) + sign_phase b ≡ 2
sign_not true = refl
sign_not false = refl

pub even_sign : (n : ℕ) → n % 2 ≡ 0 → sign_phase (n % 4 == 2) ≡ n % 4
even_sign n e = grind (arith, nat_tests)

-- the sign of i q p, where q and p anticommute
pub i_sign : (q p : Signed) → clashes q.letters p.letters % 2 ≡ 1 → sign_phase (i_times q p).sign ≡ (1 + sign_phase q.sign + sign_phase p.sign + letters_phase q.letters p.letters) % 4
i_sign q p o =
    let e = even_sign (1 + phase q p) (omega (arith, phase_parity q.letters p.letters, sign_even q.sign, sign_even p.sign)) in
    omega arith

-- ---- lengths
length_moved : (q : Signed) (a : Angle) (p : Signed) → length p.letters ≡ length q.letters → length (moved q a p).letters ≡ length q.letters
length_moved q quarter p e = length_product q.letters p.letters e
length_moved q half p e = e

pub length_conj : (n : ℕ) (q : Signed) (a : Angle) (p : Signed) → length q.letters ≡ n → length p.letters ≡ n → length (conj q a p).letters ≡ n
length_conj n q a p e f =
    elim (cases_Bool (commute q p)) [
      | inl c ↦ rw (conj_commuting q a p c) f
      | inr c ↦ rw (conj_moved q a p c) (omega (arith, length_moved q a p (omega arith)))
    ]

-- ---- commutation is kept
-- what p commutes with, conjugated
clashes_conj : (q : Signed) (a : Angle) (p : Signed) (x : List Letter) → length q.letters ≡ length p.letters → clashes q.letters x % 2 ≡ 0 → clashes (conj q a p).letters x % 2 ≡ clashes p.letters x % 2
clashes_conj q a p x e z = elim (cases_Bool (commute q p)) [ inl c ↦ rw (conj_commuting q a p c) refl | inr c ↦ rw (conj_moved q a p c) (by_angle a) ]
  where
    by_angle : (a : Angle) → clashes (moved q a p).letters x % 2 ≡ clashes p.letters x % 2
    by_angle quarter = omega (arith, clashes_product q.letters p.letters x (omega arith))
    by_angle half = refl

-- two products that both anticommute with q
pub clashes_moved : (q : Signed) (a : Angle) (p r : Signed) → length p.letters ≡ length q.letters → length r.letters ≡ length q.letters → clashes q.letters p.letters % 2 ≡ 1 → clashes q.letters r.letters % 2 ≡ 1 → clashes (moved q a p).letters (moved q a r).letters % 2 ≡ clashes p.letters r.letters % 2
clashes_moved q half p r e f o u = refl
clashes_moved q quarter p r e f o u =
    omega (
      arith,
      clashes_product q.letters p.letters (letters_product q.letters r.letters) e,
      clashes_self q.letters r.letters,
      clashes_swap p.letters (letters_product q.letters r.letters),
      clashes_product q.letters r.letters p.letters f,
      clashes_swap r.letters p.letters,
    )

-- p commutes with q
one_moves : (q : Signed) (a : Angle) (p r : Signed) → length r.letters ≡ length q.letters → commute q p ≡ true → commute p (conj q a r) ≡ commute p r
one_moves q a p r e c =
    same_commute p (conj q a r) p r
    (omega (
      arith,
      clashes_swap p.letters (conj q a r).letters,
      clashes_conj q a r p.letters (sym e) (even_from_commute q p c),
      clashes_swap p.letters r.letters,
    ))

pub conj_keeps : (n : ℕ) (q : Signed) (a : Angle) (p r : Signed) → length q.letters ≡ n → length p.letters ≡ n → length r.letters ≡ n → commute (conj q a p) (conj q a r) ≡ commute p r
conj_keeps n q a p r e f g =
    elim (cases_Bool (commute q p)) [
      | inl c ↦ rw (conj_commuting q a p c) (one_moves q a p r (omega arith) c)
      | inr c ↦ elim (cases_Bool (commute q r)) [
        | inl d ↦ rw (conj_commuting q a r d) (commute_swap (conj q a p) r ∙ one_moves q a r p (omega arith) d ∙ commute_swap r p)
        | inr d ↦ rw (conj_moved q a p c, conj_moved q a r d) (same_commute _ _ p r (clashes_moved q a p r (omega arith) (omega arith) (odd_from_commute q p c) (odd_from_commute q r d)))
      ]
    ]

-- ---- conjugation of what was conjugated
-- three products of one length
pub record Three (q r p : Signed) : Type 0 where
  pub one : length r.letters ≡ length q.letters
  pub two : length p.letters ≡ length q.letters

-- an anticommuting pair r and p: q against its product
pub clashes_pair : (q r p : Signed) → Three q r p → clashes q.letters (letters_product r.letters p.letters) % 2 ≡ (clashes q.letters r.letters + clashes q.letters p.letters) % 2
clashes_pair q r p t =
    omega (
      arith,
      clashes_swap q.letters (letters_product r.letters p.letters),
      clashes_product r.letters p.letters q.letters (t.two ∙ sym t.one),
      clashes_swap q.letters r.letters,
      clashes_swap q.letters p.letters,
    )

negated_moved : (q : Signed) (a : Angle) (p : Signed) → clashes q.letters p.letters % 2 ≡ 1 → moved q a (negated p) ≡ negated (moved q a p)
negated_moved q half p o = refl
negated_moved q quarter p o =
    same_signed (i_times q (negated p)) (negated (i_times q p))
    (omega (arith, i_sign q p o, i_sign q (negated p) o, sign_not p.sign, sign_not (i_times q p).sign, sign_even p.sign, sign_even (i_times q p).sign))
    refl

-- q anticommutes with r alone
first_moves : (q : Signed) (a : Angle) (r p : Signed) → Three q r p → clashes q.letters r.letters % 2 ≡ 1 → clashes q.letters p.letters % 2 ≡ 0 → clashes r.letters p.letters % 2 ≡ 1 → moved q a (i_times r p) ≡ i_times (moved q a r) p
first_moves q half r p t u v o =
    same_signed (negated (i_times r p)) (i_times (negated r) p)
    (omega (arith, i_sign r p o, i_sign (negated r) p o, sign_not r.sign, sign_not (i_times r p).sign, sign_even r.sign, sign_even (i_times r p).sign))
    refl
first_moves q quarter r p t u v o =
    let odd : clashes q.letters (letters_product r.letters p.letters) % 2 ≡ 1 = omega (arith, clashes_pair q r p t) in
    let odd' : clashes (letters_product q.letters r.letters) p.letters % 2 ≡ 1 = omega (arith, clashes_product q.letters r.letters p.letters t.one) in
    same_signed (i_times q (i_times r p)) (i_times (i_times q r) p)
    (omega (arith, i_sign q (i_times r p) odd, i_sign r p o, i_sign (i_times q r) p odd', i_sign q r u, phase_cocycle q.letters r.letters p.letters t.one t.two))
    (product_assoc q.letters r.letters p.letters)

-- q anticommutes with p alone
second_moves : (q : Signed) (a : Angle) (r p : Signed) → Three q r p → clashes q.letters r.letters % 2 ≡ 0 → clashes q.letters p.letters % 2 ≡ 1 → clashes r.letters p.letters % 2 ≡ 1 → moved q a (i_times r p) ≡ i_times r (moved q a p)
second_moves q half r p t u v o =
    same_signed (negated (i_times r p)) (i_times r (negated p))
    (omega (arith, i_sign r p o, i_sign r (negated p) o, sign_not p.sign, sign_not (i_times r p).sign, sign_even p.sign, sign_even (i_times r p).sign))
    refl
second_moves q quarter r p t u v o =
    let odd : clashes q.letters (letters_product r.letters p.letters) % 2 ≡ 1 = omega (arith, clashes_pair q r p t) in
    let odd' : clashes r.letters (letters_product q.letters p.letters) % 2 ≡ 1 =
    omega (arith, clashes_pair r q p (record { one = sym t.one; two = t.two ∙ sym t.one }), clashes_swap q.letters r.letters) in
    let turned = ap (λ ls. letters_phase ls p.letters) (product_comm q.letters r.letters) in
    same_signed (i_times q (i_times r p)) (i_times r (i_times q p))
    (omega (
      arith,
      i_sign q (i_times r p) odd,
      i_sign r p o,
      i_sign r (i_times q p) odd',
      i_sign q p v,
      phase_cocycle q.letters r.letters p.letters t.one t.two,
      phase_cocycle r.letters q.letters p.letters (sym t.one) (t.two ∙ sym t.one),
      phase_swap q.letters r.letters,
    ))
    (product_assoc q.letters r.letters p.letters ∙ ap (λ ls. letters_product ls p.letters) (product_comm q.letters r.letters) ∙ sym (product_assoc r.letters q.letters p.letters))

-- q anticommutes with both
both_move : (q : Signed) (a : Angle) (r p : Signed) → Three q r p → clashes q.letters r.letters % 2 ≡ 1 → clashes q.letters p.letters % 2 ≡ 1 → clashes r.letters p.letters % 2 ≡ 1 → i_times r p ≡ i_times (moved q a r) (moved q a p)
both_move q half r p t u v o =
    same_signed (i_times r p) (i_times (negated r) (negated p))
    (omega (arith, i_sign r p o, i_sign (negated r) (negated p) o, sign_not r.sign, sign_not p.sign, sign_even r.sign, sign_even p.sign))
    refl
both_move q quarter r p t u v o =
    let odd : clashes (letters_product q.letters r.letters) (letters_product q.letters p.letters) % 2 ≡ 1 =
    omega (arith, o, clashes_moved q quarter r p t.one t.two u v) in
    let back : letters_product (letters_product q.letters r.letters) q.letters ≡ r.letters =
    product_comm (letters_product q.letters r.letters) q.letters ∙ product_square q.letters r.letters t.one in
    let long : length (letters_product q.letters r.letters) ≡ length q.letters = length_product q.letters r.letters t.one in
    let moved_back = ap (λ ls. letters_phase ls p.letters) back in
    same_signed (i_times r p) (i_times (i_times q r) (i_times q p))
    (omega (
      arith,
      i_sign r p o,
      i_sign (i_times q r) (i_times q p) odd,
      i_sign q r u,
      i_sign q p v,
      sign_even q.sign,
      phase_cocycle (letters_product q.letters r.letters) q.letters p.letters (sym long) (t.two ∙ sym long),
      phase_swap (letters_product q.letters r.letters) q.letters,
      phase_undone q.letters r.letters,
      clashes_swap (letters_product q.letters r.letters) q.letters,
      clashes_self q.letters r.letters,
    ))
    (sym (product_assoc (letters_product q.letters r.letters) q.letters p.letters ∙ ap (λ ls. letters_product ls p.letters) back))

pub conj_of_negated : (q : Signed) (a : Angle) (p : Signed) → conj q a (negated p) ≡ negated (conj q a p)
conj_of_negated q a p =
    let same : commute q (negated p) ≡ commute q p = same_commute q (negated p) q p refl in
    elim (cases_Bool (commute q p)) [
      | inl c ↦ rw (conj_commuting q a p c, conj_commuting q a (negated p) (same ∙ c)) refl
      | inr c ↦ rw (conj_moved q a p c, conj_moved q a (negated p) (same ∙ c)) (negated_moved q a p (odd_from_commute q p c))
    ]

pub conj_of_product : (q : Signed) (a : Angle) (r p : Signed) → Three q r p → commute r p ≡ false → conj q a (i_times r p) ≡ i_times (conj q a r) (conj q a p)
conj_of_product q a r p t o =
    let odd = odd_from_commute r p o in
    let pair = clashes_pair q r p t in
    elim (cases_Bool (commute q r)) [
      | inl c ↦ elim (cases_Bool (commute q p)) [
        | inl d ↦
            let even = commute_from_even q (i_times r p) (omega (arith, pair, even_from_commute q r c, even_from_commute q p d)) in
            rw (conj_commuting q a r c, conj_commuting q a p d, conj_commuting q a (i_times r p) even) refl
        | inr d ↦
            let moves = commute_from_odd q (i_times r p) (omega (arith, pair, even_from_commute q r c, odd_from_commute q p d)) in
            rw (conj_commuting q a r c, conj_moved q a p d, conj_moved q a (i_times r p) moves) (second_moves q a r p t (even_from_commute q r c) (odd_from_commute q p d) odd)
      ]
      | inr c ↦ elim (cases_Bool (commute q p)) [
        | inl d ↦
            let moves = commute_from_odd q (i_times r p) (omega (arith, pair, odd_from_commute q r c, even_from_commute q p d)) in
            rw (conj_moved q a r c, conj_commuting q a p d, conj_moved q a (i_times r p) moves) (first_moves q a r p t (odd_from_commute q r c) (even_from_commute q p d) odd)
        | inr d ↦
            let even = commute_from_even q (i_times r p) (omega (arith, pair, odd_from_commute q r c, odd_from_commute q p d)) in
            rw (conj_moved q a r c, conj_moved q a p d, conj_commuting q a (i_times r p) even) (both_move q a r p t (odd_from_commute q r c) (odd_from_commute q p d) odd)
      ]
    ]

conj_of_moved : (q : Signed) (a : Angle) (r : Signed) (b : Angle) (p : Signed) → Three q r p → commute r p ≡ false → conj q a (moved r b p) ≡ moved (conj q a r) b (conj q a p)
conj_of_moved q a r half p t o = conj_of_negated q a p
conj_of_moved q a r quarter p t o = conj_of_product q a r p t o

pub conj_conj : (n : ℕ) (q : Signed) (a : Angle) (r : Signed) (b : Angle) (p : Signed) → length q.letters ≡ n → length r.letters ≡ n → length p.letters ≡ n → conj q a (conj r b p) ≡ conj (conj q a r) b (conj q a p)
conj_conj n q a r b p e f g =
    let k = conj_keeps n q a r p e f g in
    elim (cases_Bool (commute r p)) [
      | inl c ↦ rw (conj_commuting r b p c, conj_commuting (conj q a r) b (conj q a p) (k ∙ c)) refl
      | inr c ↦ rw (conj_moved r b p c, conj_moved (conj q a r) b (conj q a p) (k ∙ c)) (conj_of_moved q a r b p (record { one = f ∙ sym e; two = g ∙ sym e }) c)
    ]

-- where q and r commute, their conjugations change places
pub conj_exchange : (n : ℕ) (q : Signed) (a : Angle) (r : Signed) (b : Angle) (p : Signed) → length q.letters ≡ n → length r.letters ≡ n → length p.letters ≡ n → commute q r ≡ true → conj q a (conj r b p) ≡ conj r b (conj q a p)
conj_exchange n q a r b p e f g c = conj_conj n q a r b p e f g ∙ rw (conj_commuting q a r c) refl

-- ---- a quarter from the product in the other order
-- i q p is -i p q, which has a minus where p q has the power 3
pub quarter_from_right : (q p : Signed) → length q.letters ≡ length p.letters → commute q p ≡ false → conj q quarter p ≡ record { sign = phase p q == 3; letters = letters_product p.letters q.letters }
quarter_from_right q p e c =
    let o = odd_from_commute q p c in
    let swapped = phase_swap q.letters p.letters in
    let turned : phase q p ≡ (phase p q + 2) % 4 = omega arith in
    let signs : ((1 + phase q p) % 4 == 2) ≡ (phase p q == 3) = by_power (phase q p) (phase p q) (omega arith) turned in
    conj_moved q quarter p c ∙ (λ i. record { sign = signs i; letters = product_comm q.letters p.letters i })
  where
    by_power : (a b : ℕ) → b < 4 → a ≡ (b + 2) % 4 → ((1 + a) % 4 == 2) ≡ (b == 3)
    by_power a b h e = grind (arith, nat_tests)
