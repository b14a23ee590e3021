use Rattle.std.proofs.Common.{ℕ, List, length, sym, ◌∙◌, ap, subst, arith, refl}
use Rattle.std.proofs.lemmas.Bool.{true≢false}
use Rattle.schedule_text.specs.Text.{bit_in}
use Rattle.schedule_text.proofs.OneText.{length-digits}
use Rattle.history_replay.proofs.Digits.{DigitAt, digits_are, digit_there}
use Rattle.history_replay.proofs.lines.spells.Goals as goal

pub returns-then-word-size : goal.returns-then-word-size
returns-then-word-size c = (
  λ t. absurd (true≢false (sym t)),
  λ e. absurd (c.if-word-size.true (ap length e ∙ length-digits (bit_in c.args.bits.now) c.args.first c.args.size)),
)

pub returns-then-not-is_digit : goal.returns-then-not-is_digit
returns-then-not-is_digit c = (
  λ t. absurd (true≢false (sym t)),
  λ e. let bit = bit_in c.args.bits.now in
      let P : List ℕ → Type 0 = λ w. DigitAt w c.args.size bit c.args.first c.loop-at.at in
      let is = subst P (sym e) (digit_there c.args.size bit c.args.first c.loop-at.at (omega arith)) in
      absurd (true≢false (sym (c.is_digit.ensures.1 is) ∙ c.if-not-is_digit.true)),
)

pub returns : goal.returns
returns c = (
  λ t. digits_are c.args.word.now c.args.size (bit_in c.args.bits.now) c.args.first (omega arith) (λ i low. c.loop-at.invariant i (omega arith)),
  λ e. refl,
)
