-- From the made texts to what they stand for.
use Rattle.std.proofs.Common.{◌≡◌, ℕ, List, codes, sym, subst, arith}
use Rattle.source_model.specs.declared.Circuit.{Circuit}
use Rattle.patch_base.specs.Outside.{Rose}
use Rattle.patch_layout.specs.Grid.{Grid}
use Rattle.outcome_table.specs.declared.Outcomes.{Outcomes}
use Rattle.rotation_list.specs.Generated.{big_circuit, big_layout, big_outcomes}
use Rattle.job_read.specs.declared.fault.JobFault.{JobFault}
use Rattle.job_read.specs.declared.fault.JobFault.TheVariants as fault
use Rattle.job_read.specs.Jobs.{LayoutStops, OutcomesStop}
use Rattle.job_read.specs.Made.{IsBigLayout, BigStops, at_hand}

-- what holds of a made text and circuit, and of those at hand
module _ (n : ℕ) (text : List ℕ) (c : Circuit) (same : c ≡ big_circuit n) where
  pub of_layout : (P : List ℕ → Circuit → Type 0) → text ≡ big_layout → P text c → P big_layout (big_circuit n)
  of_layout P e h = subst (P big_layout) same (subst (λ (t : List ℕ). P t c) e h)

  pub to_layout : (P : List ℕ → Circuit → Type 0) → text ≡ big_layout → P big_layout (big_circuit n) → P text c
  to_layout P e h = subst (λ (t : List ℕ). P t c) (sym e) (subst (P big_layout) (sym same) h)

  pub of_outcomes : (P : List ℕ → Circuit → Type 0) → text ≡ big_outcomes n → P text c → P (big_outcomes n) (big_circuit n)
  of_outcomes P e h = subst (P (big_outcomes n)) same (subst (λ (t : List ℕ). P t c) e h)

  pub to_outcomes : (P : List ℕ → Circuit → Type 0) → text ≡ big_outcomes n → P (big_outcomes n) (big_circuit n) → P text c
  to_outcomes P e h = subst (λ (t : List ℕ). P t c) (sym e) (subst (P (big_outcomes n)) (sym same) h)

-- nothing fails at hand
never_rose : Rose 0 0 → ⊥
never_rose r = omega arith

pub layout_stops : (n : ℕ) (f : JobFault) → LayoutStops (codes "layout") (at_hand big_layout) (big_circuit n) f → BigStops n f
layout_stops n (fault.Read which) h = never_rose h.2
layout_stops n (fault.Circuit f) h = h
layout_stops n (fault.Layout f) h = h
layout_stops n (fault.Outcomes f) h = absurd h
layout_stops n fault.Memory h = tt

pub outcomes_stop : (n : ℕ) (g : Grid) (f : JobFault) → IsBigLayout n g → OutcomesStop (at_hand (big_outcomes n)) (big_circuit n) g f → BigStops n f
outcomes_stop n g (fault.Read which) stands h = never_rose h.1
outcomes_stop n g (fault.Circuit f) stands h = h
outcomes_stop n g (fault.Layout f) stands h = absurd h
outcomes_stop n g (fault.Outcomes f) stands h = (g, stands, h)
outcomes_stop n g fault.Memory stands h = tt
