-- The value of a whole number.
use Rattle.std.proofs.Common.{◌≡◌, ◌≢◌, ℕ, ◌<◌, ◌^◌, Bool, true, false, List, decimal, Option, Some, None, IfSome, IfNone, if◌then◌else◌, unwrap_or, refl, sym, ap, ◌∙◌, arith}
use Rattle.std.specs.Str.Parse.{AllDigits, digits_value}
use Rattle.std.proofs.lemmas.Str.Parse.{numerals_by_value, tells_digits}
use Rattle.std.proofs.lemmas.Fmt.{digits_value-decimal}
use Rattle.qasm_lex.specs.Tokens.{is_whole}
use Rattle.qasm_lex.proofs.Wholes.{whole_or_not}
use Rattle.qasm_parse.specs.Lexed.{number_of}

value_of_decimal : (v : ℕ) → v < 2 ^ 32 → digits_value 10 (decimal v) ≡ v
value_of_decimal v small = digits_value-decimal (numerals_by_value (AllDigits 10) tells_digits) v (omega arith)

chosen : (b : Bool) (m : ℕ) → b ≡ true → (if b then m else 0) ≡ m
chosen true m e = refl
chosen false m e = cc

passed : (b : Bool) (m : ℕ) → b ≡ false → (if b then m else 0) ≡ 0
passed true m e = cc
passed false m e = refl

-- what `decimal` answers gives the value, and 0 where there is none
pub number_is : (word : List ℕ) (r : Option ℕ) → IfSome r (λ v. (v < 2 ^ 32) × (word ≡ decimal v)) → IfNone r ((v : ℕ) → v < 2 ^ 32 → word ≢ decimal v) → unwrap_or r 0 ≡ number_of word
number_is word (Some v) value other = sym (chosen (is_whole word) (digits_value 10 word) (sym (whole_or_not word (Some v) value other)) ∙ ap (digits_value 10) value.1 ∙ value_of_decimal v value.0)
number_is word None value other = sym (passed (is_whole word) (digits_value 10 word) (sym (whole_or_not word None value other)))
