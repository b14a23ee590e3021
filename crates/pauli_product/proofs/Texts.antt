-- Texts of products: a text is that of one product at most.
use Rattle.std.proofs.Common.{◌≡◌, ℕ, zero, suc, ◌+◌, ◌<◌, Bool, true, false, if◌then◌else◌, List, [], ◌∷◌, ◌++◌, length, get_or, codes, flat_map, refl, ap, sym, ◌∙◌, arith}
use Rattle.pauli_product.specs.declared.Letter.{Letter}
use Rattle.pauli_product.specs.declared.Letter.TheVariants.{I, X, Y, Z}
use Rattle.pauli_product.specs.Signed.{Signed}
use Rattle.pauli_product.specs.Spelling.{letter_text, product_text}

abbrev pub letters_text : List Letter → List ℕ
letters_text ls = flat_map letter_text ls

pub length_letters : (ls : List Letter) → length (letters_text ls) ≡ length ls
length_letters [] = refl
length_letters (I ∷ ls) = ap suc (length_letters ls)
length_letters (X ∷ ls) = ap suc (length_letters ls)
length_letters (Y ∷ ls) = ap suc (length_letters ls)
length_letters (Z ∷ ls) = ap suc (length_letters ls)

-- the letter at a place of the text
pub letters_at : (ls : List Letter) (i : ℕ) → i < length (letters_text ls) → (l : Letter) × (letter_text l ≡ get_or (letters_text ls) i 0 ∷ [])
letters_at [] i h = absurd (omega arith)
letters_at (I ∷ ls) zero h = (I, refl)
letters_at (X ∷ ls) zero h = (X, refl)
letters_at (Y ∷ ls) zero h = (Y, refl)
letters_at (Z ∷ ls) zero h = (Z, refl)
letters_at (I ∷ ls) (suc i) h = letters_at ls i (omega arith)
letters_at (X ∷ ls) (suc i) h = letters_at ls i (omega arith)
letters_at (Y ∷ ls) (suc i) h = letters_at ls i (omega arith)
letters_at (Z ∷ ls) (suc i) h = letters_at ls i (omega arith)

abbrev code : Letter → ℕ
code I = 73
code X = 88
code Y = 89
code Z = 90

same_code : (a b : Letter) → code a ≡ code b → a ≡ b
same_code a b = grind arith

text_code : (l : Letter) (ls : List Letter) → letters_text (l ∷ ls) ≡ code l ∷ letters_text ls
text_code I ls = refl
text_code X ls = refl
text_code Y ls = refl
text_code Z ls = refl

pub same_letters : (ls ms : List Letter) → letters_text ls ≡ letters_text ms → ls ≡ ms
same_letters [] [] e = refl
same_letters [] (m ∷ ms) e = let f = e ∙ text_code m ms in cc
same_letters (l ∷ ls) [] e = let f = sym (text_code l ls) ∙ e in cc
same_letters (l ∷ ls) (m ∷ ms) e =
    let f : code l ∷ letters_text ls ≡ code m ∷ letters_text ms = sym (text_code l ls) ∙ e ∙ text_code m ms in
    let head : code l ≡ code m = cc in
    let rest : letters_text ls ≡ letters_text ms = cc in
    let first = same_code l m head in
    let others = same_letters ls ms rest in
    cc

abbrev pub sign_code : Bool → ℕ
sign_code true = 45
sign_code false = 43

pub product_code : (p : Signed) → product_text p ≡ sign_code p.sign ∷ letters_text p.letters
product_code p = go p.sign
  where
    go : (b : Bool) → (if b then codes "-" else codes "+") ++ letters_text p.letters ≡ sign_code b ∷ letters_text p.letters
    go true = refl
    go false = refl

same_sign_code : (a b : Bool) → sign_code a ≡ sign_code b → a ≡ b
same_sign_code a b = grind arith

pub same_product : (p q : Signed) → product_text p ≡ product_text q → p ≡ q
same_product p q e =
    let f : sign_code p.sign ∷ letters_text p.letters ≡ sign_code q.sign ∷ letters_text q.letters = sym (product_code p) ∙ e ∙ product_code q in
    let head : sign_code p.sign ≡ sign_code q.sign = cc in
    let rest : letters_text p.letters ≡ letters_text q.letters = cc in
    let s = same_sign_code p.sign q.sign head in
    let ls = same_letters p.letters q.letters rest in
    λ i. record { sign = s i; letters = ls i }

pub spelled_length : {text : List ℕ} (p : Signed) → text ≡ product_text p → length text ≡ length p.letters + 1
spelled_length p e = omega (arith, ap length e, ap length (product_code p), length_letters p.letters)
