-- The text of a complete board, and how writing it ends.
use Rattle.std.proofs.Common.{◌≡◌, ℕ, List, Result, Ok, Err, refl, sym, subst}
use Rattle.std.specs.Prelude.{IsErrAnd, All}
use Rattle.source_model.specs.declared.Circuit.{Circuit}
use Rattle.source_model.specs.declared.Given.{Given}
use Rattle.source_model.specs.Circuits.{WellFormed}
use Rattle.patch_layout.specs.Grid.{Grid, Sound}
use Rattle.magic_pool.specs.declared.Fail.{Fail}
use Rattle.board_core.specs.Headline.{job_of}
use Rattle.board_core.specs.Laws.{LegalAndCompleteIsTheHeadline}
use Rattle.board_core.specs.Legal.{BoardJob, Legal, Complete}
use Rattle.board_core.specs.Limits.{WithinLimits}
use Rattle.board_core.specs.Position.{Position, past, IsLegal}
use Rattle.board_core.specs.Suits.{HaveLetters}
use Rattle.schedule_text.specs.Laws.{LegalEntriesStand}
use Rattle.schedule_text.specs.Text.{HasNumber}
use Rattle.schedule_text.specs.Written.{IsSchedule}
use Rattle.fault_lines.specs.Sinks.{Writing, TookPart}
use Rattle.board_write.specs.declared.fault.WriteFault.{WriteFault}
use Rattle.board_write.specs.declared.fault.WriteFault.TheVariants as fault
use Rattle.board_write.specs.Boards.{IsComplete, WritesText, schedule_of}

pub complete_board : LegalAndCompleteIsTheHeadline → LegalEntriesStand → (c : Circuit) (grid : Grid) (fails : List Fail) (table : List Given) (b : Position) → WellFormed c → Sound grid → b.job ≡ job_of c.items grid fails → IsLegal b → All HasNumber b.history → IsComplete c b table → (s : IsSchedule c.items c.registers grid fails table (schedule_of c table b.history)) × (s.history ≡ b.history)
complete_board headline stand c grid fails table b formed sound is legal numbers complete =
    let j = job_of c.items grid fails in
    let is_legal : Legal j (past b) = subst (λ (k : BoardJob). Legal k (past b)) is legal.legal in
    let limits : WithinLimits j = subst WithinLimits is legal.limits in
    let letters : HaveLetters j.products = subst (λ (k : BoardJob). HaveLetters k.products) is legal.letters in
    let done : Complete j (past b) table = subst (λ (k : BoardJob). Complete k (past b) table) is complete.complete in (
      record {
        history = b.history;
        stands = stand j b.history limits sound letters is_legal numbers;
        legal = headline c.qubits c.items grid fails table (past b) formed.axes_fit complete.kinds is_legal done;
        are = refl;
      },
      refl,
    )

-- the output failed on its way through the text
pub unwritten : (w : Writing) (text : List ℕ) (end : Result (Unit {0}) WriteFault) → IsErrAnd end (λ f. f ≡ fault.Failed) → TookPart w text → WritesText w text end
unwritten w text (Ok done) is part = absurd is
unwritten w text (Err f) is part = subst (λ (e : WriteFault). WritesText w text (Err e)) (sym is) part
