-- Conjugation carries products to products.
use Rattle.std.proofs.Common.{◌≡◌, ℕ, ◌+◌, ◌%◌, ◌==◌, inl, inr, true, false, List, [], ◌∷◌, length, refl, ap, sym, ◌∙◌, arith}
use Rattle.std.proofs.lemmas.Bool.{cases_Bool}
use Rattle.pauli_product.specs.Signed.{Signed, plus, OfLength, letters_product, letters_phase, clashes, commute, sign_phase, phase, real_product}
use Rattle.pauli_product.specs.Pulls.{Angle, Turn, quarter, half, i_times, negated, moved, conj, carry, TurnsOfLength}
use Rattle.pauli_product.proofs.LetterLaws.{length_product, product_assoc, product_comm, product_square, phase_cocycle, phase_swap, phase_undone, clashes_swap, clashes_product, clashes_self, phase_parity}
use Rattle.pauli_product.proofs.Algebra.{same_signed, sign_even, sign_not, even_sign, i_sign, clashes_moved, clashes_pair, Three, even_from_commute, odd_from_commute, commute_from_even, commute_from_odd, conj_commuting, conj_moved, conj_of_product, conj_of_negated, conj_keeps, length_conj}
use Rattle.pauli_product.proofs.Turns.{turns_head, turns_tail}

-- the sign of r p, where r and p commute
pub real_sign : (r p : Signed) → clashes r.letters p.letters % 2 ≡ 0 → sign_phase (real_product r p).sign ≡ (sign_phase r.sign + sign_phase p.sign + letters_phase r.letters p.letters) % 4
real_sign r p e = even_sign (sign_phase r.sign + sign_phase p.sign + letters_phase r.letters p.letters) (omega (arith, phase_parity r.letters p.letters, sign_even r.sign, sign_even p.sign))

-- q anticommutes with r alone
first_real : (q : Signed) (a : Angle) (r p : Signed) → Three q r p → clashes q.letters r.letters % 2 ≡ 1 → clashes q.letters p.letters % 2 ≡ 0 → clashes r.letters p.letters % 2 ≡ 0 → moved q a (real_product r p) ≡ real_product (moved q a r) p
first_real q half r p t u v e =
    same_signed (negated (real_product r p)) (real_product (negated r) p)
    (omega (arith, real_sign r p e, real_sign (negated r) p e, sign_not r.sign, sign_not (real_product r p).sign, sign_even r.sign, sign_even (real_product r p).sign))
    refl
first_real q quarter r p t u v e =
    let odd : clashes q.letters (letters_product r.letters p.letters) % 2 ≡ 1 = omega (arith, clashes_pair q r p t) in
    let even : clashes (letters_product q.letters r.letters) p.letters % 2 ≡ 0 = omega (arith, clashes_product q.letters r.letters p.letters t.one) in
    same_signed (i_times q (real_product r p)) (real_product (i_times q r) p)
    (omega (arith, i_sign q (real_product r p) odd, real_sign r p e, real_sign (i_times q r) p even, i_sign q r u, phase_cocycle q.letters r.letters p.letters t.one t.two))
    (product_assoc q.letters r.letters p.letters)

-- q anticommutes with p alone
second_real : (q : Signed) (a : Angle) (r p : Signed) → Three q r p → clashes q.letters r.letters % 2 ≡ 0 → clashes q.letters p.letters % 2 ≡ 1 → clashes r.letters p.letters % 2 ≡ 0 → moved q a (real_product r p) ≡ real_product r (moved q a p)
second_real q half r p t u v e =
    same_signed (negated (real_product r p)) (real_product r (negated p))
    (omega (arith, real_sign r p e, real_sign r (negated p) e, sign_not p.sign, sign_not (real_product r p).sign, sign_even p.sign, sign_even (real_product r p).sign))
    refl
second_real q quarter r p t u v e =
    let odd : clashes q.letters (letters_product r.letters p.letters) % 2 ≡ 1 = omega (arith, clashes_pair q r p t) in
    let even : clashes r.letters (letters_product q.letters p.letters) % 2 ≡ 0 =
    omega (arith, clashes_pair r q p (record { one = sym t.one; two = t.two ∙ sym t.one }), clashes_swap q.letters r.letters) in
    let turned = ap (λ ls. letters_phase ls p.letters) (product_comm q.letters r.letters) in
    same_signed (i_times q (real_product r p)) (real_product r (i_times q p))
    (omega (
      arith,
      i_sign q (real_product r p) odd,
      real_sign r p e,
      real_sign r (i_times q p) even,
      i_sign q p v,
      phase_cocycle q.letters r.letters p.letters t.one t.two,
      phase_cocycle r.letters q.letters p.letters (sym t.one) (t.two ∙ sym t.one),
      phase_swap q.letters r.letters,
    ))
    (product_assoc q.letters r.letters p.letters ∙ ap (λ ls. letters_product ls p.letters) (product_comm q.letters r.letters) ∙ sym (product_assoc r.letters q.letters p.letters))

-- q anticommutes with both
both_real : (q : Signed) (a : Angle) (r p : Signed) → Three q r p → clashes q.letters r.letters % 2 ≡ 1 → clashes q.letters p.letters % 2 ≡ 1 → clashes r.letters p.letters % 2 ≡ 0 → real_product r p ≡ real_product (moved q a r) (moved q a p)
both_real q half r p t u v e =
    same_signed (real_product r p) (real_product (negated r) (negated p))
    (omega (arith, real_sign r p e, real_sign (negated r) (negated p) e, sign_not r.sign, sign_not p.sign, sign_even r.sign, sign_even p.sign))
    refl
both_real q quarter r p t u v e =
    let even : clashes (letters_product q.letters r.letters) (letters_product q.letters p.letters) % 2 ≡ 0 =
    omega (arith, e, clashes_moved q quarter r p t.one t.two u v) in
    let back : letters_product (letters_product q.letters r.letters) q.letters ≡ r.letters =
    product_comm (letters_product q.letters r.letters) q.letters ∙ product_square q.letters r.letters t.one in
    let long : length (letters_product q.letters r.letters) ≡ length q.letters = length_product q.letters r.letters t.one in
    let moved_back = ap (λ ls. letters_phase ls p.letters) back in
    same_signed (real_product r p) (real_product (i_times q r) (i_times q p))
    (omega (
      arith,
      real_sign r p e,
      real_sign (i_times q r) (i_times q p) even,
      i_sign q r u,
      i_sign q p v,
      sign_even q.sign,
      phase_cocycle (letters_product q.letters r.letters) q.letters p.letters (sym long) (t.two ∙ sym long),
      phase_swap (letters_product q.letters r.letters) q.letters,
      phase_undone q.letters r.letters,
      clashes_swap (letters_product q.letters r.letters) q.letters,
      clashes_self q.letters r.letters,
    ))
    (sym (product_assoc (letters_product q.letters r.letters) q.letters p.letters ∙ ap (λ ls. letters_product ls p.letters) back))

pub conj_of_real : (q : Signed) (a : Angle) (r p : Signed) → Three q r p → commute r p ≡ true → conj q a (real_product r p) ≡ real_product (conj q a r) (conj q a p)
conj_of_real q a r p t c =
    let even = even_from_commute r p c in
    let pair = clashes_pair q r p t in
    elim (cases_Bool (commute q r)) [
      | inl d ↦ elim (cases_Bool (commute q p)) [
        | inl e ↦
            let idle = commute_from_even q (real_product r p) (omega (arith, pair, even_from_commute q r d, even_from_commute q p e)) in
            rw (conj_commuting q a r d, conj_commuting q a p e, conj_commuting q a (real_product r p) idle) refl
        | inr e ↦
            let moves = commute_from_odd q (real_product r p) (omega (arith, pair, even_from_commute q r d, odd_from_commute q p e)) in
            rw (conj_commuting q a r d, conj_moved q a p e, conj_moved q a (real_product r p) moves) (second_real q a r p t (even_from_commute q r d) (odd_from_commute q p e) even)
      ]
      | inr d ↦ elim (cases_Bool (commute q p)) [
        | inl e ↦
            let moves = commute_from_odd q (real_product r p) (omega (arith, pair, odd_from_commute q r d, even_from_commute q p e)) in
            rw (conj_moved q a r d, conj_commuting q a p e, conj_moved q a (real_product r p) moves) (first_real q a r p t (odd_from_commute q r d) (even_from_commute q p e) even)
        | inr e ↦
            let idle = commute_from_even q (real_product r p) (omega (arith, pair, odd_from_commute q r d, odd_from_commute q p e)) in
            rw (conj_moved q a r d, conj_moved q a p e, conj_commuting q a (real_product r p) idle) (both_real q a r p t (odd_from_commute q r d) (odd_from_commute q p e) even)
      ]
    ]

-- ---- through lists of turns
pub carry_negated : (ts : List Turn) (p : Signed) → carry ts (negated p) ≡ negated (carry ts p)
carry_negated [] p = refl
carry_negated (t ∷ ts) p = ap (carry ts) (conj_of_negated t.axis t.angle p) ∙ carry_negated ts (conj t.axis t.angle p)

pub carry_real : (n : ℕ) (ts : List Turn) (r p : Signed) → TurnsOfLength n ts → OfLength n r → OfLength n p → commute r p ≡ true → carry ts (real_product r p) ≡ real_product (carry ts r) (carry ts p)
carry_real n [] r p h e f c = refl
carry_real n (t ∷ ts) r p h e f c =
    let g = turns_head n t ts h in
    ap (carry ts) (conj_of_real t.axis t.angle r p (record { one = e ∙ sym g; two = f ∙ sym g }) c)
    ∙ carry_real n ts (conj t.axis t.angle r) (conj t.axis t.angle p) (turns_tail n t ts h) (length_conj n t.axis t.angle r g e) (length_conj n t.axis t.angle p g f) (conj_keeps n t.axis t.angle r p g e f ∙ c)

pub carry_i_times : (n : ℕ) (ts : List Turn) (r p : Signed) → TurnsOfLength n ts → OfLength n r → OfLength n p → commute r p ≡ false → carry ts (i_times r p) ≡ i_times (carry ts r) (carry ts p)
carry_i_times n [] r p h e f c = refl
carry_i_times n (t ∷ ts) r p h e f c =
    let g = turns_head n t ts h in
    ap (carry ts) (conj_of_product t.axis t.angle r p (record { one = e ∙ sym g; two = f ∙ sym g }) c)
    ∙ carry_i_times n ts (conj t.axis t.angle r) (conj t.axis t.angle p) (turns_tail n t ts h) (length_conj n t.axis t.angle r g e) (length_conj n t.axis t.angle p g f) (conj_keeps n t.axis t.angle r p g e f ∙ c)

-- p times i x z, where x and z anticommute, from one factor at a time
pub real_of_three : (p x z : Signed) → length x.letters ≡ length p.letters → length z.letters ≡ length p.letters → commute x z ≡ false → real_product p (i_times x z) ≡ record { sign = (1 + phase p x + phase (plus (letters_product p.letters x.letters)) z) % 4 == 2; letters = letters_product (letters_product p.letters x.letters) z.letters }
real_of_three p x z e f c =
    let o = odd_from_commute x z c in
    let same : phase p (i_times x z) ≡ (1 + phase p x + phase (plus (letters_product p.letters x.letters)) z) % 4 =
    omega (arith, i_sign x z o, phase_cocycle p.letters x.letters z.letters e f) in
    (λ i. record { sign = same i == 2; letters = product_assoc p.letters x.letters z.letters i })
