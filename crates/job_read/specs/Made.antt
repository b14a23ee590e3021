-- The job that is made from a number, without a shelf.
use Rattle.std.specs.Prelude.{◌≡◌, ℕ, List, codes, Some}
use Rattle.source_model.specs.Statics.{statics}
use Rattle.patch_layout.specs.Grid.{Grid}
use Rattle.rotation_list.specs.Generated.{big_circuit, big_layout, big_outcomes}
use Rattle.job_read.specs.declared.Job.{Job}
use Rattle.job_read.specs.declared.fault.JobFault.{JobFault}
use Rattle.job_read.specs.declared.fault.JobFault.TheVariants as fault
use Rattle.job_read.specs.Reading.{Seen}
use Rattle.job_read.specs.Stages.{LayoutStands, LayoutRefused, OutcomesStand, OutcomesRefused}

-- a text at hand: it is told, and nothing fails
abbrev pub at_hand : List ℕ → Seen
at_hand text = record { told = Some text; before = 0; after = 0 }

-- the made layout text stands for the layout, which is open for the made circuit
abbrev pub IsBigLayout : ℕ → Grid → Type 0
IsBigLayout n g = LayoutStands (codes "layout") (at_hand big_layout) (big_circuit n) g

-- the made circuit, and what the two made texts stand for
pub record IsBigJob (n : ℕ) (job : Job) : Type 0 where
  pub circuit : job.circuit ≡ big_circuit n
  pub products : job.products ≡ statics job.circuit.items
  pub layout : IsBigLayout n job.layout
  pub outcomes : OutcomesStand (at_hand (big_outcomes n)) (big_circuit n) job.layout job.outcomes

-- why no job is made: a made text is refused; want of memory has no cause
abbrev pub BigStops : ℕ → JobFault → Type 0
BigStops n (fault.Read which) = ⊥
BigStops n (fault.Circuit f) = ⊥
BigStops n (fault.Layout f) = LayoutRefused (codes "layout") (at_hand big_layout) (big_circuit n) f
BigStops n (fault.Outcomes f) = (g : Grid) × IsBigLayout n g × OutcomesRefused (at_hand (big_outcomes n)) (big_circuit n) g f
BigStops n fault.Memory = Unit {0}
