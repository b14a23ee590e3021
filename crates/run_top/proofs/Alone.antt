-- From the schedule of a joined job to what each program has in it.
use Rattle.std.proofs.Common.{◌≡◌, ℕ, List, All, length, flat_map, sym, subst}
use Rattle.source_model.specs.declared.Circuit.{Circuit}
use Rattle.source_model.specs.declared.Given.{Given}
use Rattle.board_core.specs.declared.Noted.{Noted}
use Rattle.board_core.specs.Headline.{IsOneLegalHistory}
use Rattle.board_core.specs.History.{entries}
use Rattle.side_by_side.specs.Joined.{joined_items}
use Rattle.side_by_side.specs.Laws.{ClaimsAreThoseAlone, RegistersAreThoseAlone}
use Rattle.side_by_side.specs.Programs.{IsProgram, circuits, joined_outcomes}
use Rattle.run_top.specs.Alone.{IsSideSchedule}
use Rattle.run_top.specs.Carried.{IsRunSchedule}
use Rattle.run_top.specs.Sides.{Sides, first_fails, joined_job, programs_of}
use Rattle.run_top.proofs.Lists.{circuits_are, given_are}

legal_of : (s : Sides) (h : List Noted) → length s.tables ≡ length s.circuits → IsOneLegalHistory (joined_items s.circuits) s.layout (first_fails s.tables) (flat_map (λ o. o.given) s.tables) (entries h) →
    IsOneLegalHistory (joined_items (circuits (programs_of s.circuits s.tables))) s.layout (first_fails s.tables) (joined_outcomes (programs_of s.circuits s.tables)) (entries h)
legal_of s h all legal =
    subst (λ (cs : List Circuit). IsOneLegalHistory (joined_items cs) s.layout (first_fails s.tables) (joined_outcomes (programs_of s.circuits s.tables)) (entries h)) (sym (circuits_are s.circuits s.tables all))
    (subst (λ (given : List Given). IsOneLegalHistory (joined_items s.circuits) s.layout (first_fails s.tables) given (entries h)) (sym (given_are s.circuits s.tables all)) legal)

pub side_schedule : ClaimsAreThoseAlone → RegistersAreThoseAlone → (s : Sides) (text : List ℕ) → All IsProgram (programs_of s.circuits s.tables) → length s.tables ≡ length s.circuits → IsRunSchedule (joined_job s) text → IsSideSchedule s text
side_schedule claims registers s text programs all run = record {
  run = run;
  claims = λ i k p axis at low claimed.
      claims (programs_of s.circuits s.tables) i k p s.layout (first_fails s.tables) (entries run.schedule.history) axis programs at low (legal_of s run.schedule.history all run.schedule.legal) claimed;
  bits = λ i p r at has. registers (programs_of s.circuits s.tables) i p r programs at has;
}
