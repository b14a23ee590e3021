use Rattle.std.proofs.Common.{arith, ◌≡◌, ◌<◌, ◌+◌, length, take, get_or}
use Rattle.std.proofs.lemmas.Grind.{common_steps}
use Rattle.std.proofs.lemmas.Bool.Decides.{nat_tests}
use Rattle.std.specs.Str.Parse.{AllDigits, digits_value}
use Rattle.patch_base.proofs.Decimals.{decimal_is, decimal_back, not_decimal, not_below, value_more, digits_step, if_none}
use Rattle.patch_base.proofs.text.decimal.Goals as goal
use Rattle.patch_base.proofs.text.decimal.Goals.{then-is_empty-via-then-is_empty, then-is_empty-via-else-is_empty+then-word-eq48, then-word-gt1, else-word-gt1}

pub returns-then-is_empty-clause-other : goal.returns-then-is_empty-clause-other
returns-then-is_empty-clause-other c = λ v small e.
    let d = decimal_is c.args.word.now v small e in
    elim c.then-is_empty.branch [
      | then-is_empty-via-then-is_empty w ↦ grind (arith, common_steps, d.some)
      | then-is_empty-via-else-is_empty+then-word-eq48 w ↦
          elim w.if-word-gt1.branch [
            | then-word-gt1 u ↦ grind (arith, nat_tests, d.plain)
            | else-word-gt1 u ↦ grind (arith, nat_tests)
          ]
    ]

pub returns-then-not-is_ascii_digit-clause-other :
    goal.returns-then-not-is_ascii_digit-clause-other
returns-then-not-is_ascii_digit-clause-other c =
    not_decimal c.args.word.now c.loop-byte.byte-index (omega arith) (λ r. grind (arith, nat_tests, r.0, r.1))

pub returns-in_err-checked_mul-clause-other : goal.returns-in_err-checked_mul-clause-other
returns-in_err-checked_mul-clause-other c =
    let more = value_more c.args.word.now c.loop-byte.byte-index (omega arith) c.if-not-is_ascii_digit.ensures.cases in
    if_none _ _ (not_below c.args.word.now (c.loop-byte.byte-index + 1) (omega (arith, more, c.in_err-checked_mul.ensures)))

pub returns-in_err-value-clause-other : goal.returns-in_err-value-clause-other
returns-in_err-value-clause-other c =
    let more = value_more c.args.word.now c.loop-byte.byte-index (omega arith) c.if-not-is_ascii_digit.ensures.cases in
    if_none _ _ (not_below c.args.word.now (c.loop-byte.byte-index + 1) (omega (arith, more, c.in_err-value.ensures, c.in_ok-checked_mul.ensures)))

pub loop-byte-preserved : goal.loop-byte-preserved
loop-byte-preserved c =
    let range = c.if-not-is_ascii_digit.ensures.cases in
    let more = value_more c.args.word.now c.loop-byte.byte-index (omega arith) range in
    record {
      value = omega (arith, more, c.in_ok-value.ensures, c.in_ok-checked_mul.ensures);
      digits = digits_step c.args.word.now c.loop-byte.byte-index (omega arith) range c.loop-byte.invariant.digits;
      small = omega (arith, c.in_ok-value.ensures, c.in_ok-checked_mul.ensures);
    }

pub returns-clause-value : goal.returns-clause-value
returns-clause-value c =
    let all : take c.loop-byte.byte-index c.args.word.now ≡ c.args.word.now = grind (arith, common_steps) in
    let value : c.loop-byte.value ≡ digits_value 10 c.args.word.now = rw all at c.loop-byte.invariant.value in
    let digits : AllDigits 10 c.args.word.now = rw all at c.loop-byte.invariant.digits in
    let some : 0 < length c.args.word.now = grind (arith, common_steps, c.if-is_empty.ensures) in
    let plain : get_or c.args.word.now 0 0 ≡ 48 → length c.args.word.now ≡ 1 = λ zero_first.
    elim c.if-word-gt1.branch [
      | then-word-gt1 w ↦ grind (arith, nat_tests, zero_first)
      | else-word-gt1 w ↦ grind (arith, nat_tests)
    ]
    in
    (c.loop-byte.invariant.small, rw value (decimal_back c.args.word.now some plain digits (omega (arith, value, c.loop-byte.invariant.small))))
