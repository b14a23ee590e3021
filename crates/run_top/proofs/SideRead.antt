-- From the stages of reading programs side by side to what the whole call says.
use Rattle.std.proofs.Common.{◌≡◌, ℕ, ◌≤◌, List, [], ◌∷◌, All, length, flat_map, slice_get, Some, Option, inr, ap, ap₂, sym, ◌∙◌, subst, arith}
use Rattle.std.proofs.lemmas.List.Elements.{All-nil, All-cons, All-head, All-tail}
use Rattle.source_model.specs.declared.Circuit.{Circuit}
use Rattle.source_model.specs.declared.Given.{Given}
use Rattle.source_model.specs.declared.Static.{Static}
use Rattle.source_model.specs.Circuits.{WellFormed, kinds}
use Rattle.source_model.specs.Statics.{statics}
use Rattle.magic_pool.specs.declared.Fail.{Fail}
use Rattle.outcome_table.specs.declared.Outcomes.{Outcomes}
use Rattle.patch_layout.specs.Grid.{Grid}
use Rattle.job_read.specs.declared.Job.{Job}
use Rattle.job_read.specs.declared.fault.JobFault.{JobFault}
use Rattle.job_read.specs.Jobs.{LayoutStops}
use Rattle.job_read.specs.Kept.{IsCircuit}
use Rattle.job_read.specs.Reading.{IsNamed, IsTold}
use Rattle.job_read.specs.Shelves.{Shelved, seen_on}
use Rattle.job_read.specs.Stages.{LayoutStands}
use Rattle.side_by_side.specs.declared.joining.Joined.{Joined}
use Rattle.side_by_side.specs.Joined.{IsJoinOf, IsWithin, joined_circuit, sums_of}
use Rattle.side_by_side.specs.Laws.{HaveLetters, LettersStay, ProductsAreAdded}
use Rattle.run_top.specs.declared.fault.RunFault.{RunFault}
use Rattle.run_top.specs.declared.fault.RunFault.TheVariants as fault
use Rattle.run_top.specs.Sides.{AreCircuits, AreOnLayout, Sides, StandForSides, TablesStand, first_fails, joined_job, outcomes_at}
use Rattle.run_top.specs.SideFaults.{StopsAtSides, TellAllSides}
use Rattle.run_top.specs.Told.{IsOutside}
use Rattle.run_top.specs.inside.Reads.{AreTablesFor, IsSideJob, TablesStop}
use Rattle.run_top.proofs.Lists.{all_programs}
use Rattle.run_top.proofs.Once.{Laws}
use Rattle.run_top.proofs.Refusals.{same}
use Rattle.run_top.proofs.Shifts.{layout_stops, table_stands, table_stops}
use Rattle.run_top.proofs.SideJob.{Parts, fails_are, few_fails, is_job}
use Rattle.run_top.proofs.Steps.{IsPart, at_name, counted}

-- ---- letters of circuits
abbrev Lettered : Circuit → Type 0
Lettered c = HaveLetters c.items

all_lettered : (cs : List Circuit) → All IsCircuit cs → All Lettered cs
all_lettered [] h = All-nil Lettered
all_lettered (c ∷ cs) h = All-cons Lettered c cs (All-head IsCircuit c cs h).letters (all_lettered cs (All-tail IsCircuit c cs h))

-- ---- why the whole call stops
pub tables_end : (r : Shelved) (l : List ℕ) (names : List (List ℕ)) (cs : List Circuit) (g : Grid) (e : RunFault) → AreOnLayout r l names cs g → TablesStop r names cs g e → StopsAtSides r l names e
tables_end r l names cs g (fault.Program i f) on stop = inr (cs, g, on, stop)
tables_end r l names cs g (fault.Job f) on stop = absurd stop
tables_end r l names cs g fault.Unwritten on stop = absurd stop
tables_end r l names cs g fault.Memory on stop = tt

-- ---- what a later call saw
module _ (tells tells' : List ℕ → Option (List ℕ)) (before before' after : List ℕ → ℕ) (part : IsPart tells tells' before before') where
  pub layout_end : (l : List ℕ) (names : List (List ℕ)) (cs : List Circuit) (c : Circuit) (f : JobFault) → AreCircuits (counted tells before after) names cs → IsWithin (sums_of cs) → c ≡ joined_circuit cs →
      LayoutStops l (seen_on (counted tells' before' after) l) c f → StopsAtSides (counted tells before after) l names (fault.Job f)
  layout_end l names cs c f are within is stops = (
    cs,
    are,
    inr (
      within,
      subst (λ (x : Circuit). LayoutStops l (seen_on (counted tells before after) l) x f) is
          (layout_stops l (seen_on (counted tells' before' after) l) (seen_on (counted tells before after) l) c f (at_name tells tells' before before' after part l) stops),
    ),
  )

  pub tables_on : (names : List (List ℕ)) (cs : List Circuit) (g : Grid) (os : List Outcomes) → TablesStand (counted tells' before' after) names cs g os → TablesStand (counted tells before after) names cs g os
  tables_on names cs g os stand = λ i c o a b.
      table_stands (seen_on (counted tells' before' after) (outcomes_at names i)) (seen_on (counted tells before after) (outcomes_at names i)) i c g o (part.told (outcomes_at names i)) (stand i c o a b)

  pub tables_stop_on : (names : List (List ℕ)) (cs : List Circuit) (g : Grid) (e : RunFault) → TablesStop (counted tells' before' after) names cs g e → TablesStop (counted tells before after) names cs g e
  tables_stop_on names cs g (fault.Program i f) (os, c, stand, count, at, stops) = (
    os,
    c,
    tables_on names cs g os stand,
    count,
    at,
    table_stops (seen_on (counted tells' before' after) (outcomes_at names i)) (seen_on (counted tells before after) (outcomes_at names i)) i c g f (at_name tells tells' before before' after part (outcomes_at names i)) stops,
  )
  tables_stop_on names cs g (fault.Job f) stop = absurd stop
  tables_stop_on names cs g fault.Unwritten stop = absurd stop
  tables_stop_on names cs g fault.Memory stop = tt

-- ---- a layout that isn't accepted, where all texts are told and stand
pub layout_exact : (laws : Laws) (r : Shelved) (l : List ℕ) (names : List (List ℕ)) (cs : List Circuit) → AreCircuits r names cs → (e : JobFault) →
    ((g : Grid) → (IsNamed l → IsTold (seen_on r l)) → LayoutStands l (seen_on r l) (joined_circuit cs) g → IsOutside (fault.Job e)) →
    (s : Sides) → TellAllSides r l names → StandForSides r l names s → IsOutside (fault.Job e)
layout_exact laws r l names cs are e exact s told stand =
    exact s.layout told.0.1 (subst (λ (ys : List Circuit). LayoutStands l (seen_on r l) (joined_circuit ys) s.layout) (sym (same laws r l names cs are s.circuits told.0.0 stand.on.circuits)) stand.on.layout)

-- ---- the joined job
few_in : (cs : List Circuit) (c : Circuit) → ProductsAreAdded → IsWithin (sums_of cs) → c ≡ joined_circuit cs → length (kinds c.items) ≤ 16384
few_in cs c added within is = subst (λ (x : Circuit). length (kinds x.items) ≤ 16384) (sym is) (let a = added cs in let b = within.products in omega (arith, a, b))

pub circuit_kept : (cs : List Circuit) (j : Joined) → ProductsAreAdded → LettersStay → All IsCircuit cs → IsJoinOf cs j → WellFormed j.circuit → IsCircuit j.circuit
circuit_kept cs j added stay each joined formed = record {
  well_formed = formed;
  few_products = few_in cs j.circuit added joined.within joined.circuit;
  letters = subst (λ (x : Circuit). HaveLetters x.items) (sym joined.circuit) (stay cs (all_lettered cs each));
}

outcomes_are_joined : (os : List Outcomes) (o : Outcomes) → 1 ≤ length os → o.given ≡ flat_map (λ t. t.given) os → ((first : Outcomes) → slice_get os 0 ≡ Some first → o.fails ≡ first.fails) →
    o ≡ record { given = flat_map (λ t. t.given) os; fails = first_fails os }
outcomes_are_joined os o some given fails = ap₂ (λ (g : List Given) (f : List Fail). record { given = g; fails = f }) given (fails_are os o.fails some fails)

job_is_joined : (cs : List Circuit) (os : List Outcomes) (job : Job) → job.circuit ≡ joined_circuit cs → job.products ≡ statics job.circuit.items →
    job.outcomes ≡ record { given = flat_map (λ t. t.given) os; fails = first_fails os } → job ≡ joined_job (record { circuits = cs; layout = job.layout; tables = os })
job_is_joined cs os job circuit products outcomes =
    ap₂ (λ (c : Circuit) (rest : List Static × Outcomes). record { circuit = c; products = rest.0; layout = job.layout; outcomes = rest.1 }) circuit
    (ap₂ (λ (ps : List Static) (o : Outcomes). (ps, o)) (products ∙ ap (λ (c : Circuit). statics c.items) circuit) outcomes)

pub side_job : (r : Shelved) (l : List ℕ) (names : List (List ℕ)) (cs : List Circuit) (os : List Outcomes) (j : Joined) (job : Job) →
    IsJoinOf cs j → job.circuit ≡ j.circuit → AreOnLayout r l names cs job.layout → TablesStand r names cs job.layout os → length os ≡ length cs → AreTablesFor cs os →
    job.outcomes.given ≡ flat_map (λ t. t.given) os → ((first : Outcomes) → slice_get os 0 ≡ Some first → job.outcomes.fails ≡ first.fails) →
    (length job.outcomes.fails ≤ 4096 → Parts job) → IsSideJob r l names job
side_job r l names cs os j job joined circuit on tables count fit given fails parts =
    let some : 1 ≤ length os = (let a = joined.some in omega (arith, a, count)) in
    let first : job.outcomes.fails ≡ first_fails os = fails_are os job.outcomes.fails some fails in
    let kept = parts (subst (λ (fs : List Fail). length fs ≤ 4096) (sym first) (few_fails cs os count fit)) in
    record {
      sides = record { circuits = cs; layout = job.layout; tables = os };
      stand = record { on = on; all = count; tables = tables };
      is = job_is_joined cs os job (circuit ∙ joined.circuit) kept.products (outcomes_are_joined os job.outcomes some given fails);
      programs = all_programs cs os joined.each (λ i c o a b. (fit i c o a b).kinds);
      kept = is_job job kept;
    }
