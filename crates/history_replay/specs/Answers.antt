-- What a verdict says.
use Rattle.std.specs.Prelude.{◌≡◌, ℕ, List}
use Rattle.schedule_text.specs.Text.{Version}
use Rattle.history_replay.specs.declared.Verdict.{Verdict}
use Rattle.history_replay.specs.declared.Verdict.TheVariants.{Legal, Illegal}
use Rattle.history_replay.specs.Replay.{Question, IsTextOf, FirstBadLine}

-- the text is that of the board's history, or has this first bad line
abbrev pub IsVerdict : Question → List ℕ → Verdict → Type 0
IsVerdict q text (Legal b) = (b.job ≡ q.job) × ((v : Version) × IsTextOf q text v b.history)
IsVerdict q text (Illegal line) = FirstBadLine q text line
