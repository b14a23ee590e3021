-- The static axes of a circuit have a letter other than I, as its own axes have, and their texts are read back.
use Rattle.std.proofs.Common.{◌≡◌, ◌≢◌, ℕ, zero, suc, ◌==◌, not, Bool, true, false, IsTrue, List, [], ◌∷◌, ◌++◌, map, slice_get, Some, refl, sym, ◌∙◌, ap}
use Rattle.std.specs.List.{flat_map, list_all, list_any, slice_index_or}
use Rattle.std.proofs.lemmas.Bool.{false≢true, or_left, or_right}
use Rattle.pauli_product.specs.declared.Letter.{Letter}
use Rattle.pauli_product.specs.declared.Letter.TheVariants.{I, X, Y, Z}
use Rattle.pauli_product.specs.Signed.{Signed, IsNotIdentity}
use Rattle.pauli_product.specs.Pulls.{Turn, pull}
use Rattle.pauli_product.specs.Spelling.{sign_text, letter_text, product_text}
use Rattle.pauli_product.proofs.Laws.{pull_letters}
use Rattle.source_model.specs.Used.{acts, acts_at}
use Rattle.product_list.specs.ListText.{is_letter, letter_of, is_axis, axis_in_text}

-- some letter is other than I
abbrev pub has_other : List Letter → Bool
has_other ls = list_any acts ls

letter_there : (ls : List Letter) (q : ℕ) → acts (slice_index_or ls q I) ≡ true → (l : Letter) × (slice_get ls q ≡ Some l) × (l ≢ I)
letter_there [] zero e = absurd (false≢true e)
letter_there [] (suc q) e = absurd (false≢true e)
letter_there (l ∷ ls) zero e = (l, refl, λ s. false≢true (ap acts (sym s) ∙ e))
letter_there (l ∷ ls) (suc q) e = letter_there ls q e

other_acts : (l : Letter) → l ≢ I → acts l ≡ true
other_acts I other = absurd (other refl)
other_acts X other = refl
other_acts Y other = refl
other_acts Z other = refl

other_from : (ls : List Letter) (q : ℕ) (l : Letter) → slice_get ls q ≡ Some l → l ≢ I → has_other ls ≡ true
other_from [] zero l e other = absurd (cc)
other_from [] (suc q) l e other = absurd (cc)
other_from (x ∷ xs) zero l e other = let same : x ≡ l = cc in or_left (acts x) (has_other xs) (ap acts same ∙ other_acts l other)
other_from (x ∷ xs) (suc q) l e other = or_right (acts x) (has_other xs) (other_from xs q l e other)

other_there : (p : Signed) → IsNotIdentity p → has_other p.letters ≡ true
other_there p h = other_from p.letters h.0 h.1.0 h.1.1 h.1.2

-- a pulled axis has a letter other than I
pub pull_other : (ts : List Turn) (p : Signed) (q : ℕ) → IsTrue (acts_at p q) → has_other (pull ts p).letters ≡ true
pull_other ts p q h = other_there (pull ts p) (pull_letters ts p (q, letter_there p.letters q h))

-- ---- the text of an axis

letters_all : (ls : List Letter) → list_all is_letter (flat_map letter_text ls) ≡ true
letters_all [] = refl
letters_all (I ∷ ls) = letters_all ls
letters_all (X ∷ ls) = letters_all ls
letters_all (Y ∷ ls) = letters_all ls
letters_all (Z ∷ ls) = letters_all ls

letters_other : (ls : List Letter) → list_any (λ c. not (c == 73)) (flat_map letter_text ls) ≡ has_other ls
letters_other [] = refl
letters_other (I ∷ ls) = letters_other ls
letters_other (X ∷ ls) = refl
letters_other (Y ∷ ls) = refl
letters_other (Z ∷ ls) = refl

letters_back : (ls : List Letter) → map letter_of (flat_map letter_text ls) ≡ ls
letters_back [] = refl
letters_back (I ∷ ls) = ap (λ xs. I ∷ xs) (letters_back ls)
letters_back (X ∷ ls) = ap (λ xs. X ∷ xs) (letters_back ls)
letters_back (Y ∷ ls) = ap (λ xs. Y ∷ xs) (letters_back ls)
letters_back (Z ∷ ls) = ap (λ xs. Z ∷ xs) (letters_back ls)

signed_axis : (minus : Bool) (ls : List Letter) → has_other ls ≡ true → is_axis (sign_text minus ++ flat_map letter_text ls) ≡ true
unfolding is_axis
signed_axis true ls h = rw (letters_all ls) (letters_other ls ∙ h)
signed_axis false ls h = rw (letters_all ls) (letters_other ls ∙ h)

pub axis_there : (p : Signed) → has_other p.letters ≡ true → is_axis (product_text p) ≡ true
axis_there p h = signed_axis p.sign p.letters h

signed_back : (minus : Bool) (ls : List Letter) → axis_in_text (sign_text minus ++ flat_map letter_text ls) ≡ record { sign = minus; letters = ls }
unfolding axis_in_text
signed_back true ls = let e = letters_back ls in ap (λ xs. record { sign = true; letters = xs }) e
signed_back false ls = let e = letters_back ls in ap (λ xs. record { sign = false; letters = xs }) e

pub axis_back : (p : Signed) → axis_in_text (product_text p) ≡ p
axis_back p = signed_back p.sign p.letters
