-- What the digits of a decimal are.
use Rattle.std.proofs.Common.{◌≡◌, ◌⊎◌, ℕ, zero, suc, ◌+◌, ◌-◌, ◌*◌, ◌<◌, ◌≤◌, ◌^◌, List, length, take, get_or, decimal, refl, arith, ap, sym, ◌∙◌, inl, inr, Option, Some, None, IfNone}
use Rattle.std.specs.Char.{digit_value}
use Rattle.std.specs.Int.{IsInRange}
use Rattle.std.proofs.lemmas.Bool.Decides.{nat_tests}
use Rattle.std.proofs.lemmas.Int.Digits.{digits_value_more, digits_more}
use Rattle.std.specs.Str.Parse.{AllDigits, digits_value}
use Rattle.std.proofs.lemmas.Str.Parse.{IsNumeralModel, numerals_by_value, tells_digits, digits_value-take-le, digit_at}
use Rattle.std.proofs.lemmas.Fmt.{digits_decimal, digits_value-decimal, first_decimal, decimal_digit, decimal_nonempty, decimal-digits_value}

pub own : IsNumeralModel (AllDigits 10) (digits_value 10)
own = numerals_by_value (AllDigits 10) tells_digits

-- a word that is the text of a number
pub record IsDecimalOf (word : List ℕ) (v : ℕ) : Type 0 where
  pub some : 0 < length word
  pub plain : get_or word 0 0 ≡ 48 → length word ≡ 1
  pub digits : AllDigits 10 word
  pub value : digits_value 10 word ≡ v

zero_or_more : (v : ℕ) → (v ≡ 0) ⊎ (0 < v)
zero_or_more zero = inl refl
zero_or_more (suc v) = inr (omega arith)

decimal_plain : (v : ℕ) → v < 2 ^ 32 → get_or (decimal v) 0 0 ≡ 48 → length (decimal v) ≡ 1
decimal_plain v small zero_first = elim (zero_or_more v) [
  | inl none ↦ rw (none, decimal_digit 0 (omega arith))
  | inr some ↦ let more : 48 < get_or (decimal v) 0 0 = first_decimal v some (omega arith) in absurd (omega arith)
]

decimal_parts : (v : ℕ) → v < 2 ^ 32 → IsDecimalOf (decimal v) v
decimal_parts v small = record {
  some = decimal_nonempty v (omega arith);
  plain = decimal_plain v small;
  digits = digits_decimal own v (omega arith);
  value = digits_value-decimal own v (omega arith);
}

pub decimal_is : (word : List ℕ) (v : ℕ) → v < 2 ^ 32 → word ≡ decimal v → IsDecimalOf word v
decimal_is word v small e = rw e (decimal_parts v small)

pub decimal_back : (word : List ℕ) → 0 < length word → (get_or word 0 0 ≡ 48 → length word ≡ 1) → AllDigits 10 word → digits_value 10 word < 2 ^ 32 → word ≡ decimal (digits_value 10 word)
decimal_back word some plain digits small = sym (decimal-digits_value own word digits some plain (omega arith))

-- a byte that isn't a digit
pub not_decimal : (word : List ℕ) (i : ℕ) → i < length word → (IsInRange 48 57 (get_or word i 0) → ⊥) → (v : ℕ) → v < 2 ^ 32 → word ≡ decimal v → ⊥
not_decimal word i inside other v small e = other (digit_at word i (decimal_is word v small e).digits inside)

-- first digits whose value is too large
pub not_below : (word : List ℕ) (i : ℕ) → 2 ^ 32 ≤ digits_value 10 (take i word) → (v : ℕ) → v < 2 ^ 32 → word ≡ decimal v → ⊥
not_below word i large v small e =
    let le : digits_value 10 (take i word) ≤ digits_value 10 word = digits_value-take-le 10 word i (omega arith) in
    let is : digits_value 10 word ≡ v = (decimal_is word v small e).value in
    absurd (omega arith)

digit_value_is : (b : ℕ) → 48 ≤ b → b ≤ 57 → digit_value b ≡ b - 48
digit_value_is b low high = grind (arith, nat_tests)

-- one digit more
pub value_more : (word : List ℕ) (i : ℕ) → i < length word → IsInRange 48 57 (get_or word i 0) → digits_value 10 (take (i + 1) word) ≡ digits_value 10 (take i word) * 10 + (get_or word i 0 - 48)
value_more word i inside range = digits_value_more 10 word i inside ∙ ap (λ d. digits_value 10 (take i word) * 10 + d) (digit_value_is (get_or word i 0) range.0 range.1)

pub digits_step : (word : List ℕ) (i : ℕ) → i < length word → IsInRange 48 57 (get_or word i 0) → AllDigits 10 (take i word) → AllDigits 10 (take (i + 1) word)
digits_step word i inside range digits =
    let e : digit_value (get_or word i 0) ≡ get_or word i 0 - 48 = digit_value_is (get_or word i 0) range.0 range.1 in
    let r : (48 ≤ get_or word i 0) × (get_or word i 0 ≤ 57) = range in
    digits_more 10 word i inside digits (omega arith)

pub if_none : {X : Type 0} (r : Option X) (P : Type 0) → P → IfNone r P
if_none None P p = p
if_none (Some x) P p = tt
