-- One program more is read, or isn't.
use Rattle.std.proofs.Common.{◌≡◌, ◌⊎◌, ℕ, ◌*◌, ◌<◌, ◌≤◌, List, [], ◌∷◌, ◌++◌, length, slice_get, Some, Option, Result, Ok, Err, refl, sym, subst}
use Rattle.std.specs.Prelude.{IsErrAnd, IfErr}
use Rattle.source_model.specs.declared.Circuit.{Circuit}
use Rattle.patch_layout.specs.Grid.{Grid}
use Rattle.outcome_table.specs.declared.Outcomes.{Outcomes}
use Rattle.job_read.specs.Shelves.{Shelved, seen_on}
use Rattle.job_read.specs.Stages.{CircuitStands}
use Rattle.run_top.specs.declared.fault.RunFault.{RunFault}
use Rattle.run_top.specs.Sides.{CircuitsStand, TableStands, TablesStand, circuit_at, outcomes_at}
use Rattle.run_top.specs.Told.{IsOutside}
use Rattle.run_top.specs.inside.Told.{EndsBy}
use Rattle.run_top.specs.inside.Reads.{AreTablesFor, CircuitsStop, IsTableOf, StopsOne, StopsTable, TablesStop}
use Rattle.run_top.proofs.Lists.{each_next, pairs_next}
use Rattle.run_top.proofs.Shifts.{IsPartOf, circuit_stands, circuit_stops, table_stands, table_stops}

pub by_err : {A : Type 0} (P : RunFault → Type 0) (end : Result A RunFault) (e : RunFault) → IsErrAnd end (λ x. x ≡ e) → P e → IfErr end P
by_err P (Ok a) e is h = tt
by_err P (Err x) e is h = subst P (sym is) h

-- a shelf with these bytes and these counts before and after
abbrev pub counted : (List ℕ → Option (List ℕ)) → (List ℕ → ℕ) → (List ℕ → ℕ) → Shelved
counted tells before after = record { tells = tells; before = before; after = after }

-- a part of the calls on a shelf, from the first one or a later one to the last one
pub record IsPart (tells tells' : List ℕ → Option (List ℕ)) (before before' : List ℕ → ℕ) : Type 0 where
  pub told : (n : List ℕ) → tells' n ≡ tells n
  pub counts : (n : List ℕ) → before n ≤ before' n

module _ (tells tells' : List ℕ → Option (List ℕ)) (before before' after : List ℕ → ℕ) (part : IsPart tells tells' before before') where
  pub at_name : (n : List ℕ) → IsPartOf (seen_on (counted tells' before' after) n) (seen_on (counted tells before after) n)
  at_name n = record { told = part.told n; before = part.counts n; after = refl }

  pub next_circuit : (names : List (List ℕ)) (cs : List Circuit) (c : Circuit) (i : ℕ) → length cs ≡ i → CircuitsStand (counted tells before before') names cs →
      CircuitStands (seen_on (counted tells' before' after) (circuit_at names i)) c → CircuitsStand (counted tells before after) names (cs ++ c ∷ [])
  next_circuit names cs c i count stand last =
      each_next (λ k x. CircuitStands (seen_on (counted tells before after) (circuit_at names k)) x) cs c (λ k x at. stand k x at)
      (circuit_stands (seen_on (counted tells' before' after) (circuit_at names (length cs))) (seen_on (counted tells before after) (circuit_at names (length cs))) c (part.told (circuit_at names (length cs)))
      (subst (λ (k : ℕ). CircuitStands (seen_on (counted tells' before' after) (circuit_at names k)) c) (sym count) last))

  pub circuits_stopped : (names : List (List ℕ)) (cs : List Circuit) (i : ℕ) (e : RunFault) → length cs ≡ i → 2 * i < length names → CircuitsStand (counted tells before before') names cs →
      StopsOne (counted tells' before' after) names i e → CircuitsStop (counted tells before after) names e
  circuits_stopped names cs i e count below stand (f, is, stops) =
      subst (CircuitsStop (counted tells before after) names) (sym is)
      (below, (cs, (λ k x at. stand k x at), count, circuit_stops (seen_on (counted tells' before' after) (circuit_at names i)) (seen_on (counted tells before after) (circuit_at names i)) f (at_name (circuit_at names i)) stops))

  pub next_table : (names : List (List ℕ)) (cs : List Circuit) (g : Grid) (os : List Outcomes) (c : Circuit) (o : Outcomes) (i : ℕ) → length os ≡ i → slice_get cs i ≡ Some c →
      TablesStand (counted tells before before') names cs g os → TableStands (seen_on (counted tells' before' after) (outcomes_at names i)) i c g o →
      TablesStand (counted tells before after) names cs g (os ++ o ∷ [])
  next_table names cs g os c o i count at stand last =
      pairs_next (λ k x y. TableStands (seen_on (counted tells before after) (outcomes_at names k)) k x g y) cs os o c (subst (λ (k : ℕ). slice_get cs k ≡ Some c) (sym count) at)
      (λ k x y a b. stand k x y a b)
      (table_stands (seen_on (counted tells' before' after) (outcomes_at names (length os))) (seen_on (counted tells before after) (outcomes_at names (length os))) (length os) c g o (part.told (outcomes_at names (length os)))
      (subst (λ (k : ℕ). TableStands (seen_on (counted tells' before' after) (outcomes_at names k)) k c g o) (sym count) last))

  pub tables_stopped : (names : List (List ℕ)) (cs : List Circuit) (g : Grid) (os : List Outcomes) (c : Circuit) (i : ℕ) (e : RunFault) → length os ≡ i → slice_get cs i ≡ Some c →
      TablesStand (counted tells before before') names cs g os → StopsTable (counted tells' before' after) names i c g e → TablesStop (counted tells before after) names cs g e
  tables_stopped names cs g os c i e count at stand (f, is, stops) =
      subst (TablesStop (counted tells before after) names cs g) (sym is)
      (os, c, (λ k x y a b. stand k x y a b), count, at, table_stops (seen_on (counted tells' before' after) (outcomes_at names i)) (seen_on (counted tells before after) (outcomes_at names i)) i c g f (at_name (outcomes_at names i)) stops)

pub next_fit : (cs : List Circuit) (os : List Outcomes) (c : Circuit) (o : Outcomes) (i : ℕ) → length os ≡ i → slice_get cs i ≡ Some c → AreTablesFor cs os → IsTableOf c o → AreTablesFor cs (os ++ o ∷ [])
next_fit cs os c o i count at fit last =
    pairs_next (λ k x y. IsTableOf x y) cs os o c (subst (λ (k : ℕ). slice_get cs k ≡ Some c) (sym count) at) fit last

pub by_ends : {A : Type 0} (f : RunFault) (end : Result A RunFault) (e : RunFault) → IsErrAnd end (λ x. x ≡ e) → (e ≡ f) ⊎ IsOutside e → EndsBy f end
by_ends f (Ok a) e is h = absurd is
by_ends f (Err x) e is h = subst (λ (y : RunFault). (y ≡ f) ⊎ IsOutside y) (sym is) h
