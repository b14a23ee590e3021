-- Two programs that are carried out side by side.
use Rattle.std.specs.Prelude.{◌≡◌, List, All, length}
use Rattle.board_core.specs.Position.{Position}
use Rattle.job_read.specs.declared.Job.{Job}
use Rattle.side_by_side.specs.declared.joining.Joined.{Joined}
use Rattle.side_by_side.specs.declared.joining.Span.{Span}
use Rattle.side_by_side.specs.Joined.{IsJoinOf}
use Rattle.side_by_side.specs.Programs.{IsCarriedOut, IsProgram, Program, circuits, joined_outcomes}

-- the job of two programs that are joined, which have these spans
pub record IsOfTwo (job : Job) (spans : List Span) : Type 0 where
  pub programs : List Program
  pub count : length programs ≡ 2
  pub each : All IsProgram programs
  pub joined : IsJoinOf (circuits programs) (record { circuit = job.circuit; spans = spans })
  pub outcomes : job.outcomes.given ≡ joined_outcomes programs

-- two programs were carried out
abbrev pub AreCarriedOut : Joined → Position → Type 0
AreCarriedOut j b = (ps : List Program) × IsCarriedOut j b ps × (length ps ≡ 2)
