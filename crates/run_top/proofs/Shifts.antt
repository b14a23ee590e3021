-- A text that is seen by a later call, and by all calls together.
use Rattle.std.proofs.Common.{inl, inr, ◌≡◌, ℕ, ◌≤◌, List, Option, IfSome, IsSome, ap, sym, subst, arith}
use Rattle.patch_base.specs.Outside.{Rose}
use Rattle.source_model.specs.declared.Circuit.{Circuit}
use Rattle.patch_layout.specs.declared.fault.LayoutFault.{LayoutFault}
use Rattle.outcome_table.specs.declared.Outcomes.{Outcomes}
use Rattle.outcome_table.specs.OutcomeText as tables
use Rattle.outcome_table.specs.OutcomeText.{Asked}
use Rattle.rotation_list.specs.Texts as circuits
use Rattle.patch_layout.specs.LayoutText as layouts
use Rattle.patch_layout.specs.Grid.{Grid}
use Rattle.job_read.specs.declared.fault.JobFault.{JobFault}
use Rattle.job_read.specs.declared.fault.JobFault.TheVariants as job
use Rattle.job_read.specs.Jobs.{CircuitStops, LayoutStops, OutcomesStop}
use Rattle.job_read.specs.Reading.{IsNamed, IsTold, Seen}
use Rattle.job_read.specs.Stages.{CircuitStands, LayoutRefused, LayoutStands, asked_by, factories_in, wanted_by}
use Rattle.run_top.specs.Sides.{TableStands, asked_of}
use Rattle.run_top.specs.SideFaults.{TableStops}

-- the first call, or one after it, and all of them
pub record IsPartOf (s t : Seen) : Type 0 where
  pub told : s.told ≡ t.told
  pub before : t.before ≤ s.before
  pub after : s.after ≡ t.after

rose : (a b c : ℕ) → a ≤ b → Rose b c → Rose a c
rose a b c le r = omega (arith, le, r)

failed : (s t : Seen) → IsPartOf s t → Rose s.before s.after → Rose t.before t.after
failed s t part r = subst (λ (n : ℕ). Rose t.before n) part.after (rose t.before s.before s.after part.before r)

pub circuit_stands : (s t : Seen) (c : Circuit) → s.told ≡ t.told → CircuitStands s c → CircuitStands t c
circuit_stands s t c told h = subst (λ (x : Option (List ℕ)). IfSome x (λ text. circuits.StandsFor text c)) told h

pub circuit_stops : (s t : Seen) (f : JobFault) → IsPartOf s t → CircuitStops s f → CircuitStops t f
circuit_stops s t (job.Read which) part (is, r) = (is, failed s t part r)
circuit_stops s t (job.Circuit f) part (some, h) = (some, subst (λ (x : Option (List ℕ)). IfSome x (λ text. circuits.IsRefused text f)) part.told h)
circuit_stops s t (job.Layout f) part h = h
circuit_stops s t (job.Outcomes f) part h = h
circuit_stops s t job.Memory part h = h

pub table_stands : (s t : Seen) (i : ℕ) (c : Circuit) (g : Grid) (o : Outcomes) → s.told ≡ t.told → TableStands s i c g o → TableStands t i c g o
table_stands s t i c g o told h = subst (λ (x : Option (List ℕ)). IfSome x (λ text. tables.StandsFor (asked_of i c g) text o.given o.fails)) told h

pub table_stops : (s t : Seen) (i : ℕ) (c : Circuit) (g : Grid) (f : JobFault) → IsPartOf s t → TableStops s i c g f → TableStops t i c g f
table_stops s t i c g (job.Read which) part (is, r) = (is, failed s t part r)
table_stops s t i c g (job.Circuit f) part h = h
table_stops s t i c g (job.Layout f) part h = h
table_stops s t i c g (job.Outcomes f) part (some, h) = (some, subst (λ (x : Option (List ℕ)). IfSome x (λ text. tables.Refuses (asked_of i c g) text f)) part.told h)
table_stops s t i c g job.Memory part h = h

pub layout_stands : (word : List ℕ) (s t : Seen) (c : Circuit) (g : Grid) → s.told ≡ t.told → LayoutStands word s c g → LayoutStands word t c g
layout_stands word s t c g told (is, open_for) = (elim is [ inl row ↦ inl row | inr text ↦ inr (text.0, subst (λ (x : Option (List ℕ)). IfSome x (λ u. layouts.StandsFor u g)) told text.1) ], open_for)

pub layout_stops : (word : List ℕ) (s t : Seen) (c : Circuit) (f : JobFault) → IsPartOf s t → LayoutStops word s c f → LayoutStops word t c f
layout_stops word s t c (job.Read which) part (is, named, r) = (is, named, failed s t part r)
layout_stops word s t c (job.Circuit f) part h = h
layout_stops word s t c (job.Layout f) part (some, h) =
    (some, elim h [ inl row ↦ inl row | inr text ↦ inr (text.0, subst (λ (x : Option (List ℕ)). IfSome x (λ u. layouts.Refused u (wanted_by c) f)) part.told text.1) ])
layout_stops word s t c (job.Outcomes f) part h = h
layout_stops word s t c job.Memory part h = h

-- ---- outcomes that are read for a layout with the factories that are known to a program
asked_same : (i : ℕ) (c : Circuit) (g known : Grid) → factories_in known.sites ≡ (asked_of i c g).factories → asked_by c known ≡ asked_of i c g
asked_same i c g known e = ap (λ (fs : List ℕ). record { kinds = (asked_of i c g).kinds; factories = fs }) e

pub outcomes_stop : (s : Seen) (i : ℕ) (c : Circuit) (g known : Grid) (f : JobFault) → factories_in known.sites ≡ (asked_of i c g).factories → OutcomesStop s c known f → TableStops s i c g f
outcomes_stop s i c g known (job.Read which) e h = h
outcomes_stop s i c g known (job.Circuit f) e h = h
outcomes_stop s i c g known (job.Layout f) e h = h
outcomes_stop s i c g known (job.Outcomes f) e (some, h) = (some, subst (λ (a : Asked). IfSome s.told (λ text. tables.Refuses a text f)) (asked_same i c g known e) h)
outcomes_stop s i c g known job.Memory e h = h

-- ---- a layout that a later call saw, for the joined circuit
module _ (l : List ℕ) (s t : Seen) (told : s.told ≡ t.told) (c d : Circuit) (same : c ≡ d) where
  pub named_told : (IsNamed l → IsTold t) → IsNamed l → IsTold s
  named_told h named = subst IsSome (sym told) (h named)

  pub here_stands : (g : Grid) → LayoutStands l t d g → LayoutStands l s c g
  here_stands g h = layout_stands l t s c g (sym told) (subst (λ (x : Circuit). LayoutStands l t x g) (sym same) h)

  pub here_refused : (f : LayoutFault) → LayoutRefused l t d f → LayoutRefused l s c f
  here_refused f h = there (subst (λ (x : Circuit). LayoutRefused l t x f) (sym same) h)
    where
      there : LayoutRefused l t c f → LayoutRefused l s c f
      there (some, h) = (some, elim h [ inl row ↦ inl row | inr text ↦ inr (text.0, subst (λ (x : Option (List ℕ)). IfSome x (λ u. layouts.Refused u (wanted_by c) f)) (sym told) text.1) ])
