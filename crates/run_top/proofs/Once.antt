-- Told texts of programs side by side are accepted or refused in one way.
use Rattle.std.proofs.Common.{◌≡◌, ◌⊎◌, ℕ, ◌<◌, List, length, slice_get, get_or, Option, Some, None, IfSome, IsSome, inl, inr, ap, arith}
use Rattle.std.proofs.lemmas.Bool.{false≢true}
use Rattle.std.proofs.lemmas.List.{same_lists}
use Rattle.std.proofs.lemmas.Option.{slice_get-get_or}
use Rattle.source_model.specs.declared.Circuit.{Circuit}
use Rattle.source_model.specs.declared.Given.{Given}
use Rattle.magic_pool.specs.declared.Fail.{Fail}
use Rattle.qasm_lex.specs.declared.fault.CircuitFault.{CircuitFault}
use Rattle.outcome_table.specs.declared.fault.OutcomeFault.{OutcomeFault}
use Rattle.outcome_table.specs.declared.Outcomes.{Outcomes}
use Rattle.outcome_table.specs.OutcomeText as tables
use Rattle.outcome_table.specs.OutcomeText.{Asked}
use Rattle.patch_layout.specs.Grid.{Grid}
use Rattle.rotation_list.specs.Laws.{OneCircuit, NotBoth, OneFault}
use Rattle.rotation_list.specs.Texts as circuits
use Rattle.job_read.specs.declared.fault.JobFault.{JobFault}
use Rattle.job_read.specs.declared.fault.JobFault.TheVariants as job
use Rattle.job_read.specs.Jobs as job_faults
use Rattle.job_read.specs.Jobs.{CircuitStops}
use Rattle.job_read.specs.Reading.{IsTold, Seen}
use Rattle.job_read.specs.Shelves.{Shelved, seen_on}
use Rattle.job_read.specs.Stages.{CircuitStands}
use Rattle.run_top.specs.Sides.{CircuitsStand, TableStands, TablesStand, asked_of, circuit_at, outcomes_at}
use Rattle.run_top.specs.SideFaults.{TableStops}
use Rattle.run_top.proofs.Lists.{get_within}

-- what the laws of texts say
pub record Laws : Type 0 where
  pub one : OneCircuit
  pub apart : NotBoth
  pub one_fault : OneFault
  pub table_fault : (a : Asked) (text : List ℕ) (f f' : OutcomeFault) → tables.Refuses a text f → tables.Refuses a text f' → f ≡ f'
  pub table_apart : (a : Asked) (text : List ℕ) (given : List Given) (fails : List Fail) (f : OutcomeFault) → tables.StandsFor a text given fails → tables.Refuses a text f → ⊥

-- what is true of a told text
both : (t : Option (List ℕ)) (P Q : List ℕ → Type 0) → IsSome t → IfSome t P → IfSome t Q → (text : List ℕ) × P text × Q text
both None P Q some p q = absurd (false≢true some)
both (Some text) P Q some p q = (text, p, q)

module _ (laws : Laws) where
  -- ---- one circuit
  same_circuit : (s : Seen) (c d : Circuit) → IsTold s → CircuitStands s c → CircuitStands s d → c ≡ d
  same_circuit s c d told x y = let b = both s.told (λ t. circuits.StandsFor t c) (λ t. circuits.StandsFor t d) told x y in laws.one b.0 c d b.1 b.2

  circuit_outside : (s : Seen) (c : Circuit) (f : JobFault) → IsTold s → CircuitStands s c → CircuitStops s f → job_faults.IsOutside f
  circuit_outside s c (job.Read which) told x y = tt
  circuit_outside s c (job.Circuit f) told x y = let b = both s.told (λ t. circuits.StandsFor t c) (λ t. circuits.IsRefused t f) told x y.1 in absurd (laws.apart b.0 c f b.1 b.2)
  circuit_outside s c (job.Layout f) told x y = absurd y
  circuit_outside s c (job.Outcomes f) told x y = absurd y
  circuit_outside s c job.Memory told x y = tt

  pub circuit_once : (s : Seen) (e : JobFault) (f : CircuitFault) → IsTold s → CircuitStops s e → CircuitStops s (job.Circuit f) → (e ≡ job.Circuit f) ⊎ job_faults.IsOutside e
  circuit_once s (job.Read which) f told x y = inr tt
  circuit_once s (job.Circuit g) f told x y =
      let b = both s.told (λ t. circuits.IsRefused t g) (λ t. circuits.IsRefused t f) told x.1 y.1 in inl (ap job.Circuit (laws.one_fault b.0 g f b.1 b.2))
  circuit_once s (job.Layout g) f told x y = absurd x
  circuit_once s (job.Outcomes g) f told x y = absurd x
  circuit_once s job.Memory f told x y = inr tt

  -- ---- one table
  table_outside : (s : Seen) (i : ℕ) (c : Circuit) (g : Grid) (o : Outcomes) (f : JobFault) → IsTold s → TableStands s i c g o → TableStops s i c g f → job_faults.IsOutside f
  table_outside s i c g o (job.Read which) told x y = tt
  table_outside s i c g o (job.Circuit f) told x y = absurd y
  table_outside s i c g o (job.Layout f) told x y = absurd y
  table_outside s i c g o (job.Outcomes f) told x y =
      let b = both s.told (λ t. tables.StandsFor (asked_of i c g) t o.given o.fails) (λ t. tables.Refuses (asked_of i c g) t f) told x y.1 in
      absurd (laws.table_apart (asked_of i c g) b.0 o.given o.fails f b.1 b.2)
  table_outside s i c g o job.Memory told x y = tt

  pub table_once : (s : Seen) (i : ℕ) (c : Circuit) (g : Grid) (e : JobFault) (f : OutcomeFault) → IsTold s → TableStops s i c g e → TableStops s i c g (job.Outcomes f) → (e ≡ job.Outcomes f) ⊎ job_faults.IsOutside e
  table_once s i c g (job.Read which) f told x y = inr tt
  table_once s i c g (job.Circuit h) f told x y = absurd x
  table_once s i c g (job.Layout h) f told x y = absurd x
  table_once s i c g (job.Outcomes h) f told x y =
      let b = both s.told (λ t. tables.Refuses (asked_of i c g) t h) (λ t. tables.Refuses (asked_of i c g) t f) told x.1 y.1 in
      inl (ap job.Outcomes (laws.table_fault (asked_of i c g) b.0 h f b.1 b.2))
  table_once s i c g job.Memory f told x y = inr tt

  -- ---- among all programs
  module _ (r : Shelved) (names : List (List ℕ)) where
    pub circuit_blocked : (cs : List Circuit) (i : ℕ) (f : JobFault) → CircuitsStand r names cs → i < length cs → IsTold (seen_on r (circuit_at names i)) →
        CircuitStops (seen_on r (circuit_at names i)) f → job_faults.IsOutside f
    circuit_blocked cs i f stand below told stops = let x = get_within cs i below in circuit_outside (seen_on r (circuit_at names i)) x.0 f told (stand i x.0 x.1) stops

    pub circuits_same : (cs ds : List Circuit) → CircuitsStand r names cs → CircuitsStand r names ds → length cs ≡ length ds →
        ((i : ℕ) → i < length cs → IsTold (seen_on r (circuit_at names i))) → cs ≡ ds
    circuits_same cs ds stand stand' count told =
        same_lists cs ds count (λ k d below.
        same_circuit (seen_on r (circuit_at names k)) (get_or cs k d) (get_or ds k d) (told k below)
        (stand k (get_or cs k d) (slice_get-get_or cs k d below)) (stand' k (get_or ds k d) (slice_get-get_or ds k d (omega (arith, below, count)))))

    pub table_blocked : (cs : List Circuit) (g : Grid) (os : List Outcomes) (c : Circuit) (i : ℕ) (f : JobFault) → TablesStand r names cs g os → i < length os → slice_get cs i ≡ Some c →
        IsTold (seen_on r (outcomes_at names i)) → TableStops (seen_on r (outcomes_at names i)) i c g f → job_faults.IsOutside f
    table_blocked cs g os c i f stand below at told stops =
        let x = get_within os i below in table_outside (seen_on r (outcomes_at names i)) i c g x.0 f told (stand i c x.0 at x.1) stops
