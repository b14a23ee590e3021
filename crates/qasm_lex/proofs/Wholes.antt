-- A run of digits is a whole number where it is the decimal of a number.
use Rattle.std.proofs.Common.{◌≡◌, ◌≢◌, ℕ, ◌<◌, ◌^◌, List, decimal, Option, Some, None, IfSome, IfNone, is_some, refl, ap, ◌∙◌, arith}
use Rattle.std.specs.Str.Parse.{AllDigits, digits_value}
use Rattle.std.specs.Bool.{Decides}
use Rattle.std.proofs.lemmas.Bool.Decides.{Decides-and, Decides-like, Decides-ltb, same_from_decides}
use Rattle.std.proofs.lemmas.Slice.Eq.{bytes_eq-Decides}
use Rattle.std.proofs.lemmas.Str.Parse.{numerals_by_value, tells_digits}
use Rattle.std.proofs.lemmas.Fmt.{digits_value-decimal}
use Rattle.qasm_lex.specs.Tokens.{is_whole}

abbrev IsDecimal : List ℕ → Type 0
IsDecimal run = (v : ℕ) × (v < 2 ^ 32) × (run ≡ decimal v)

value_of_decimal : (v : ℕ) → v < 2 ^ 32 → digits_value 10 (decimal v) ≡ v
value_of_decimal v small = digits_value-decimal (numerals_by_value (AllDigits 10) tells_digits) v (omega arith)

some_decides : (run : List ℕ) (r : Option ℕ) → IfSome r (λ v. (v < 2 ^ 32) × (run ≡ decimal v)) → IfNone r ((v : ℕ) → v < 2 ^ 32 → run ≢ decimal v) → Decides (is_some r) (IsDecimal run)
some_decides run (Some v) value other = (λ _. (v, value.0, value.1), λ _. refl)
some_decides run None value other = (λ e. cc, λ p. absurd (other p.0 p.1 p.2))

pub whole_decides : (run : List ℕ) → Decides (is_whole run) (IsDecimal run)
unfolding is_whole
whole_decides run = Decides-like (is_whole run) forth back (Decides-and _ _ (Decides-ltb (digits_value 10 run) (2 ^ 32)) (bytes_eq-Decides run (decimal (digits_value 10 run))))
  where
    forth : (digits_value 10 run < 2 ^ 32) × (run ≡ decimal (digits_value 10 run)) → IsDecimal run
    forth p = (digits_value 10 run, p.0, p.1)

    back : IsDecimal run → (digits_value 10 run < 2 ^ 32) × (run ≡ decimal (digits_value 10 run))
    back p =
        let same : digits_value 10 run ≡ p.0 = ap (digits_value 10) p.2 ∙ value_of_decimal p.0 p.1 in
        (rw same p.1, rw same p.2)

pub whole_or_not : (run : List ℕ) (r : Option ℕ) → IfSome r (λ v. (v < 2 ^ 32) × (run ≡ decimal v)) → IfNone r ((v : ℕ) → v < 2 ^ 32 → run ≢ decimal v) → is_some r ≡ is_whole run
whole_or_not run r value other = same_from_decides (is_some r) (is_whole run) (some_decides run r value other) (whole_decides run)
