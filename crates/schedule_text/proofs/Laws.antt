-- The laws that crates above cite.
use Rattle.std.proofs.Common.{List, sym, ◌∙◌}
use Rattle.std.specs.Prelude.{All}
use Rattle.source_model.specs.SourceRun.{bit_after}
use Rattle.board_core.specs.declared.Noted.{Noted}
use Rattle.schedule_text.specs.Text.{Version, two, Prints, TextTellsAll}
use Rattle.schedule_text.specs.Lines.{StandsIn}
use Rattle.schedule_text.specs.Laws.{OneSchedule}
use Rattle.schedule_text.proofs.OneText as texts

pub text_tells_all : TextTellsAll
text_tells_all = texts.text_tells_all

print : (v : Version) (h : List Noted) → All (StandsIn v) h → All (Prints v) h
print v h stands k d low = (stands k d low).0

pub one_schedule : OneSchedule
one_schedule registers text items others grid other fails fails2 table table2 names runs s t =
    (texts.text_tells_all two two s.history t.history registers (bit_after items table) (bit_after others table2) (print two s.history s.stands) (print two t.history t.stands) names runs (sym s.are ∙ t.are)).1
