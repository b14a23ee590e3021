-- A conjugation keeps a letter other than I: where the product and the axis clash on an odd number of qubits, their product has a letter at each of these.
use Rattle.std.proofs.Common.{◌≡◌, ◌≢◌, ℕ, suc, ◌+◌, ◌%◌, Bool, true, false, if◌then◌else◌, List, [], ◌∷◌, slice_get, Some, refl, ap, sym, ◌∙◌, subst, arith}
use Rattle.std.proofs.lemmas.Bool.{true≢false}
use Rattle.pauli_product.specs.declared.Letter.{Letter}
use Rattle.pauli_product.specs.declared.Letter.TheVariants.{I, X, Y, Z}
use Rattle.pauli_product.specs.Letters.{letter_product, letters_clash}
use Rattle.pauli_product.specs.Signed.{Signed, IsNotIdentity, commute, clashes, letters_product}
use Rattle.pauli_product.specs.Pulls.{Angle, Turn, quarter, half, pull, carry, conj}
use Rattle.pauli_product.proofs.Algebra.{conj_commuting, conj_moved, odd_from_commute}

clash_letter : (a b : Letter) → letters_clash a b ≡ true → letter_product a b ≢ I
clash_letter I b e = absurd (true≢false (sym e))
clash_letter X I e = absurd (true≢false (sym e))
clash_letter X X e = absurd (true≢false (sym e))
clash_letter X Y e = λ s. cc
clash_letter X Z e = λ s. cc
clash_letter Y I e = absurd (true≢false (sym e))
clash_letter Y X e = λ s. cc
clash_letter Y Y e = absurd (true≢false (sym e))
clash_letter Y Z e = λ s. cc
clash_letter Z I e = absurd (true≢false (sym e))
clash_letter Z X e = λ s. cc
clash_letter Z Y e = λ s. cc
clash_letter Z Z e = absurd (true≢false (sym e))

abbrev LetterAt : List Letter → ℕ → Type 0
LetterAt ls q = (l : Letter) × (slice_get ls q ≡ Some l) × (l ≢ I)

abbrev LetterIn : List Letter → Type 0
LetterIn ls = (q : ℕ) × LetterAt ls q

one_later : (a : Letter) (ls : List Letter) → LetterIn ls → LetterIn (a ∷ ls)
one_later a ls x = (suc x.0, x.1)

clashing : (as' bs : List Letter) → clashes as' bs % 2 ≡ 1 → LetterIn (letters_product as' bs)
clashing [] bs e = absurd (omega arith)
clashing (a ∷ as') [] e = absurd (omega arith)
clashing (a ∷ as') (b ∷ bs) e = go (λ f. clashing as' bs f) (letters_clash a b) refl e
  where
    go : (clashes as' bs % 2 ≡ 1 → LetterIn (letters_product as' bs)) → (c : Bool) → letters_clash a b ≡ c → ((if c then 1 else 0) + clashes as' bs) % 2 ≡ 1 → LetterIn (letters_product (a ∷ as') (b ∷ bs))
    go more true s f = (0, (letter_product a b, refl, clash_letter a b s))
    go more false s f = one_later (letter_product a b) (letters_product as' bs) (more (ap (λ (n : ℕ). n % 2) (let z : clashes as' bs ≡ 0 + clashes as' bs = omega arith in z) ∙ f))

pub conj_letters : (q : Signed) (a : Angle) (p : Signed) → IsNotIdentity p → IsNotIdentity (conj q a p)
conj_letters q a p x = go (commute q p) refl a
  where
    go : (c : Bool) → commute q p ≡ c → (a : Angle) → LetterIn (conj q a p).letters
    go true s a = subst (λ (y : Signed). LetterIn y.letters) (sym (conj_commuting q a p s)) x
    go false s quarter = subst (λ (y : Signed). LetterIn y.letters) (sym (conj_moved q quarter p s)) (clashing q.letters p.letters (odd_from_commute q p s))
    go false s half = subst (λ (y : Signed). LetterIn y.letters) (sym (conj_moved q half p s)) x

pub pull_letters : (ts : List Turn) (p : Signed) → IsNotIdentity p → IsNotIdentity (pull ts p)
pull_letters [] p x = x
pull_letters (t ∷ ts) p x = conj_letters t.axis t.angle (pull ts p) (pull_letters ts p x)

pub carry_letters : (ts : List Turn) (p : Signed) → IsNotIdentity p → IsNotIdentity (carry ts p)
carry_letters [] p x = x
carry_letters (t ∷ ts) p x = carry_letters ts (conj t.axis t.angle p) (conj_letters t.axis t.angle p x)
