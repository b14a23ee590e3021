use Rattle.std.proofs.Common.{ℕ, ◌<◌}
use Rattle.schedule_text.specs.Text.{bit_in}
use Rattle.history_replay.proofs.Digits.{DigitAt}
use Rattle.history_replay.proofs.lines.spells.Given as goal

abbrev pub invariant-loop-at : goal.invariant-loop-at
invariant-loop-at l = (i : ℕ) → i < l.at → DigitAt l.word l.size (bit_in l.bits) l.first i
