-- The verdicts of a replay: after the header, the entry lines and the lines of bits.
use Rattle.std.proofs.Common.{ℕ, List, drop, sym, subst, inl, inr, Result, Ok, Err}
use Rattle.std.specs.Prelude.{All, Option, Some, None, IfOk, IfSome, IfNone, MatchOption}
use Rattle.patch_base.specs.declared.outside.Memory.{Memory}
use Rattle.source_model.specs.declared.Circuit.{Circuit}
use Rattle.source_model.specs.declared.Given.{Given}
use Rattle.source_model.specs.Circuits.{IsOneLine, RightKinds}
use Rattle.source_model.specs.SourceRun.{bit_after}
use Rattle.board_core.specs.Legal.{BoardJob, Complete}
use Rattle.board_core.specs.Position.{Position, past}
use Rattle.schedule_text.specs.Lines.{version_of}
use Rattle.history_replay.specs.declared.Verdict.TheVariants as verdict
use Rattle.history_replay.specs.declared.enter.Entered.TheVariants.{Bad, UpTo}
use Rattle.history_replay.specs.Replay.{FirstBadLine, asked}
use Rattle.history_replay.specs.Answers.{IsVerdict}
use Rattle.history_replay.specs.inside.Lines.{IsHeader}
use Rattle.history_replay.specs.inside.Joining.{IsEntered, AgreeAll, Closes, Fails}
use Rattle.history_replay.proofs.Verdicts.{bad_entry, bad_bits, bad_stop, whole_text}

pub entered_bad : (c : Circuit) (table : List Given) (was now : Position) (text : List ℕ) (version next line : ℕ) → All (λ r. IsOneLine r.name) c.registers → IsHeader text version next → IsEntered table (version_of version) text next was now (Bad line) → FirstBadLine (asked c was.job table) text line
entered_bad c table was now text version next line names header (h, n, rest, begins, begun, barred, number) =
    bad_entry (asked c was.job table) (version_of version) text (drop next text) rest h n line names header.text_is begins begun barred number

-- what the end of a text answers
abbrev Ended : Circuit → Position → List ℕ → Option ℕ → Type 0
Ended c now tail o =
    (table : List Given) → RightKinds c.items table → AgreeAll table now.history
    → MatchOption o (Closes table now c.registers (bit_after c.items table) tail) (Fails table now c.registers (bit_after c.items table) tail)

pub closed_bad : (c : Circuit) (table : List Given) (was now : Position) (text : List ℕ) (version next at : ℕ) (r : Result (Option ℕ) Memory) → All (λ r. IsOneLine r.name) c.registers → RightKinds c.items table → IsHeader text version next → IsEntered table (version_of version) text next was now (UpTo at)
    → IfOk r (Ended c now (drop at text)) → IfOk r (λ f. IfSome f (FirstBadLine (asked c was.job table) text))
closed_bad c table was now text version next at (Err e) names right header entered ended = tt
closed_bad c table was now text version next at (Ok None) names right header entered ended = tt
closed_bad c table was now text version next at (Ok (Some line)) names right header (begins, job, within, none) ended = go (ended table right begins.agree)
  where
    P : BoardJob → Type 0
    P j = Complete j (past now) table

    go : Fails table now c.registers (bit_after c.items table) (drop at text) line → FirstBadLine (asked c was.job table) text line
    go (inl (incomplete, number)) =
        bad_bits (asked c was.job table) (version_of version) text (drop next text) (drop at text) now.history line names header.text_is begins none (λ complete. incomplete (subst P (sym job) complete)) number
    go (inr (complete, (k, stops, number))) =
        bad_stop (asked c was.job table) (version_of version) text (drop next text) (drop at text) now.history k line names header.text_is begins none (subst P job complete) stops number

pub closed_legal : (c : Circuit) (table : List Given) (was now : Position) (text : List ℕ) (version next at : ℕ) (r : Result (Option ℕ) Memory) → RightKinds c.items table → IsHeader text version next → IsEntered table (version_of version) text next was now (UpTo at)
    → IfOk r (Ended c now (drop at text)) → IfOk r (λ f. IfNone f (IsVerdict (asked c was.job table) text (verdict.Legal now)))
closed_legal c table was now text version next at (Err e) right header entered ended = tt
closed_legal c table was now text version next at (Ok (Some line)) right header entered ended = tt
closed_legal c table was now text version next at (Ok None) right header (begins, job, within, none) ended =
    let closes = ended table right begins.agree in
    let P : BoardJob → Type 0 = λ j. Complete j (past now) table in
    (job, (version_of version, whole_text (asked c was.job table) (version_of version) text (drop next text) (drop at text) now.history header.text_is begins (subst P job closes.complete) closes.text_is))
