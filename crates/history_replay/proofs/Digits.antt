-- Digits of bits, place by place from the last one.
use Rattle.std.proofs.Common.{◌≡◌, ℕ, zero, suc, ◌+◌, ◌-◌, ◌<◌, Bool, true, false, List, [], ◌∷◌, ◌++◌, length, get_or, refl, sym, ◌∙◌, ap, subst, arith}
use Rattle.std.proofs.lemmas.List.{get_or_append_left}
use Rattle.std.proofs.Math.Seq.{get_or-append_seam}
use Rattle.patch_base.specs.Texts.{digit}
use Rattle.schedule_text.specs.Text.{digits}
use Rattle.schedule_text.proofs.OneText.{length-digits}

-- the byte for the i-th bit
abbrev pub DigitAt : List ℕ → ℕ → (ℕ → Bool) → ℕ → ℕ → Type 0
DigitAt word size bit first i = get_or word (size - 1 - i) 0 ∷ [] ≡ digit (bit (first + i))

-- a word with one byte more at its end
last_of : (word : List ℕ) (size : ℕ) → length word ≡ suc size → (init : List ℕ) × (b : ℕ) × (word ≡ init ++ b ∷ []) × (length init ≡ size)
last_of [] size e = absurd (omega (arith, e))
last_of (x ∷ []) zero e = ([], x, refl, refl)
last_of (x ∷ []) (suc size) e = absurd (omega (arith, e))
last_of (x ∷ y ∷ ys) zero e = absurd (omega (arith, e))
last_of (x ∷ y ∷ ys) (suc size) e =
    let (init, b, is, count) = last_of (y ∷ ys) size (omega (arith, e)) in (x ∷ init, b, ap (λ zs. x ∷ zs) is, ap suc count)

byte_last : (init : List ℕ) (b size : ℕ) → length init ≡ size → get_or (init ++ b ∷ []) (suc size - 1 - 0) 0 ≡ b
byte_last init b size e =
    let f : suc size - 1 - 0 ≡ length init = omega (arith, e) in
    ap (λ k. get_or (init ++ b ∷ []) k 0) f ∙ get_or-append_seam init b [] 0

byte_before : (init tail : List ℕ) (size i : ℕ) → length init ≡ size → i < size → get_or (init ++ tail) (suc size - 1 - suc i) 0 ≡ get_or init (size - 1 - i) 0
byte_before init tail size i e low =
    let f : suc size - 1 - suc i ≡ size - 1 - i = omega arith in
    ap (λ k. get_or (init ++ tail) k 0) f ∙ get_or_append_left init tail 0 (size - 1 - i) (omega (arith, e, low))

pub digits_are : (word : List ℕ) (size : ℕ) (bit : ℕ → Bool) (first : ℕ) → length word ≡ size → ((i : ℕ) → i < size → DigitAt word size bit first i) → word ≡ digits bit first size
digits_are [] zero bit first e f = refl
digits_are (x ∷ xs) zero bit first e f = absurd (omega (arith, e))
digits_are word (suc size) bit first e f =
    let (init, b, is, count) = last_of word size e in
    let P : List ℕ → Type 0 = λ w. (i : ℕ) → i < suc size → DigitAt w (suc size) bit first i in
    let g = subst P is f in
    let here : first + 0 ≡ first = omega arith in
    let last : b ∷ [] ≡ digit (bit first) = ap (λ x. x ∷ []) (sym (byte_last init b size count)) ∙ (g 0 (omega arith) ∙ ap (λ k. digit (bit k)) here) in
    let rest = digits_are init size bit (first + 1) count (λ i low. let next : first + suc i ≡ first + 1 + i = omega arith in ap (λ x. x ∷ []) (sym (byte_before init (b ∷ []) size i count low)) ∙ (g (suc i) (omega (arith, low)) ∙ ap (λ k. digit (bit k)) next)) in
    is ∙ (ap (λ xs. xs ++ b ∷ []) rest ∙ ap (λ ys. digits bit (first + 1) size ++ ys) last)

one_digit : (b : Bool) → (x : ℕ) × (digit b ≡ x ∷ [])
one_digit true = (49, refl)
one_digit false = (48, refl)

pub digit_there : (size : ℕ) (bit : ℕ → Bool) (first i : ℕ) → i < size → DigitAt (digits bit first size) size bit first i
digit_there zero bit first i low = absurd (omega arith)
digit_there (suc size) bit first zero low =
    let (x, is) = one_digit (bit first) in
    let here : first ≡ first + 0 = omega arith in
    ap (λ d. get_or (digits bit (first + 1) size ++ d) (suc size - 1 - 0) 0 ∷ []) is
    ∙ (ap (λ y. y ∷ []) (byte_last (digits bit (first + 1) size) x size (length-digits bit (first + 1) size))
    ∙ (sym is ∙ ap (λ k. digit (bit k)) here))
digit_there (suc size) bit first (suc i) low =
    let next : first + 1 + i ≡ first + suc i = omega arith in
    ap (λ x. x ∷ []) (byte_before (digits bit (first + 1) size) (digit (bit first)) size i (length-digits bit (first + 1) size) (omega (arith, low)))
    ∙ (digit_there size bit (first + 1) i (omega (arith, low)) ∙ ap (λ k. digit (bit k)) next)
