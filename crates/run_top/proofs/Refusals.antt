-- How reading programs side by side ends, where their texts are told.
use Rattle.std.proofs.Common.{◌≡◌, ◌⊎◌, ℕ, ◌+◌, ◌*◌, ◌<◌, List, length, inl, inr, ap, sym, ◌∙◌, subst, arith}
use Rattle.std.proofs.lemmas.Bool.{cases_lt}
use Rattle.std.proofs.lemmas.Option.{same_Some, slice_get_within}
use Rattle.source_model.specs.declared.Circuit.{Circuit}
use Rattle.qasm_lex.specs.declared.fault.CircuitFault.{CircuitFault}
use Rattle.patch_layout.specs.declared.fault.LayoutFault.{LayoutFault}
use Rattle.outcome_table.specs.declared.fault.OutcomeFault.{OutcomeFault}
use Rattle.outcome_table.specs.declared.Outcomes.{Outcomes}
use Rattle.patch_layout.specs.Grid.{Grid}
use Rattle.job_read.specs.declared.fault.JobFault.{JobFault}
use Rattle.job_read.specs.declared.fault.JobFault.TheVariants as job
use Rattle.job_read.specs.Reading.{IsNamed, IsTold}
use Rattle.job_read.specs.Shelves.{Shelved, seen_on}
use Rattle.job_read.specs.Stages.{LayoutRefused, LayoutStands}
use Rattle.side_by_side.specs.Joined.{IsWithin, joined_circuit, sums_of}
use Rattle.run_top.specs.declared.fault.RunFault.{RunFault}
use Rattle.run_top.specs.declared.fault.RunFault.TheVariants as fault
use Rattle.run_top.specs.Sides.{AreCircuits, Sides, StandForSides, TablesStand, circuit_at, outcomes_at}
use Rattle.run_top.specs.SideFaults.{AreTooMany, CircuitsTold, LayoutTold, StopsAtCircuit, StopsAtOutcomes, StopsAtTable, TablesTold, TellAllSides}
use Rattle.run_top.specs.Told.{IsOutside, RefusesSides}
use Rattle.run_top.specs.inside.Reads.{CircuitsStop, JoinStops, TablesStop}
use Rattle.run_top.proofs.Once.{Laws, circuit_blocked, circuit_once, circuits_same, table_blocked, table_once}

-- each refusal is of one of four kinds
pub record Refusals (r : Shelved) (l : List ℕ) (names : List (List ℕ)) (P : RunFault → Type 0) : Type 0 where
  pub circuit : (j : ℕ) (x : CircuitFault) → CircuitsTold r names (2 * j + 1) → StopsAtCircuit r names j (job.Circuit x) → P (fault.Program j (job.Circuit x))
  pub join : (ds : List Circuit) (x : CircuitFault) → CircuitsTold r names (length names) → AreCircuits r names ds → AreTooMany ds (job.Circuit x) → P (fault.Job (job.Circuit x))
  pub layout : (ds : List Circuit) (x : LayoutFault) → LayoutTold r l names → AreCircuits r names ds → IsWithin (sums_of ds) →
      LayoutRefused l (seen_on r l) (joined_circuit ds) x → P (fault.Job (job.Layout x))
  pub table : (j : ℕ) (x : OutcomeFault) → LayoutTold r l names → TablesTold r names (2 * j + 2) → StopsAtTable r l names j (job.Outcomes x) → P (fault.Program j (job.Outcomes x))

pub by_kind : (r : Shelved) (l : List ℕ) (names : List (List ℕ)) (P : RunFault → Type 0) → Refusals r l names P → (f : RunFault) → RefusesSides r l names f → P f
by_kind r l names P k (fault.Program j (job.Read w)) (told, stop, out) = absurd (out tt)
by_kind r l names P k (fault.Program j (job.Circuit x)) (told, inl s, out) = k.circuit j x told s
by_kind r l names P k (fault.Program j (job.Circuit x)) (told, inr (cs, g, on, (os, c, ts, len, at, stops)), out) = absurd stops
by_kind r l names P k (fault.Program j (job.Layout x)) (told, inl (below, (cs, st, len, stops)), out) = absurd stops
by_kind r l names P k (fault.Program j (job.Layout x)) (told, inr (cs, g, on, (os, c, ts, len, at, stops)), out) = absurd stops
by_kind r l names P k (fault.Program j (job.Outcomes x)) (told, inl (below, (cs, st, len, stops)), out) = absurd stops
by_kind r l names P k (fault.Program j (job.Outcomes x)) (told, inr s, out) = k.table j x told.0 told.1 s
by_kind r l names P k (fault.Program j job.Memory) (told, stop, out) = absurd (out tt)
by_kind r l names P k (fault.Job (job.Read w)) (told, stop, out) = absurd (out tt)
by_kind r l names P k (fault.Job (job.Circuit x)) (told, (cs, are, inl many), out) = k.join cs x told are many
by_kind r l names P k (fault.Job (job.Circuit x)) (told, (cs, are, inr (within, stops)), out) = absurd stops
by_kind r l names P k (fault.Job (job.Layout x)) (told, (cs, are, inl (is, past)), out) = absurd (cc)
by_kind r l names P k (fault.Job (job.Layout x)) (told, (cs, are, inr (within, stops)), out) = k.layout cs x told are within stops
by_kind r l names P k (fault.Job (job.Outcomes x)) (told, (cs, are, inl (is, past)), out) = absurd (cc)
by_kind r l names P k (fault.Job (job.Outcomes x)) (told, (cs, are, inr (within, stops)), out) = absurd stops
by_kind r l names P k (fault.Job job.Memory) (told, stop, out) = absurd (out tt)
by_kind r l names P k fault.Unwritten (told, stop, out) = absurd stop
by_kind r l names P k fault.Memory (told, stop, out) = absurd (out tt)

-- this fault, or one of the outside
abbrev pub Or : RunFault → RunFault → Type 0
Or e f = (e ≡ f) ⊎ IsOutside e

less_or_more : (i j : ℕ) → (i < j) ⊎ (i ≡ j) ⊎ (j < i)
less_or_more i j = elim (cases_lt i j) [
  | inl lt ↦ inl lt
  | inr ge ↦ elim (cases_lt j i) [ inl gt ↦ inr (inr gt) | inr le ↦ inr (inl (omega arith)) ]
]

module _ (laws : Laws) (r : Shelved) (l : List ℕ) (names : List (List ℕ)) where
  -- ---- it stopped at a circuit
  blocked_at : (i : ℕ) (e : JobFault) (ds : List Circuit) → CircuitsTold r names (length names) → AreCircuits r names ds → StopsAtCircuit r names i e → IsOutside (fault.Program i e)
  blocked_at i e ds told are (below, (cs, stand, count, stops)) =
      circuit_blocked laws r names ds i e are.stand (let a = are.all in omega (arith, a, below)) (told i below) stops

  at_circuit : (i : ℕ) (e : JobFault) → StopsAtCircuit r names i e → Refusals r l names (Or (fault.Program i e))
  at_circuit i e (below, (cs, stand, count, stops)) = record {
    circuit = λ j x told (below', (ds, stand', count', stops')). elim (less_or_more i j) [
      | inl lt ↦ inr (circuit_blocked laws r names ds i e stand' (omega (arith, lt, count')) (told i (omega (arith, lt))) stops)
      | inr (inl same) ↦ elim (circuit_once laws (seen_on r (circuit_at names i)) e x (told i (omega (arith, same))) stops
          (subst (λ (k : ℕ). StopsAtCircuit r names k (job.Circuit x)) (sym same) (below', (ds, stand', count', stops'))).1.3) [
            | inl is ↦ inl (subst (λ (k : ℕ). fault.Program i e ≡ fault.Program k (job.Circuit x)) same (ap (fault.Program i) is))
            | inr out ↦ inr out
          ]
      | inr (inr gt) ↦ absurd (circuit_blocked laws r names cs j (job.Circuit x) stand (omega (arith, gt, count)) (told j (omega arith)) stops')
    ];
    join = λ ds x told are many. inr (blocked_at i e ds told are (below, (cs, stand, count, stops)));
    layout = λ ds x told are within refused. inr (blocked_at i e ds told.0 are (below, (cs, stand, count, stops)));
    table = λ j x told tables (ds, g, on, s). inr (blocked_at i e ds told.0 on.circuits (below, (cs, stand, count, stops)));
  }

  out_of_memory : (P : RunFault → Type 0) → ((f : RunFault) → P f) → Refusals r l names P
  out_of_memory P all = record { circuit = λ j x told s. all _; join = λ ds x told are many. all _; layout = λ ds x told are within refused. all _; table = λ j x told tables s. all _ }

  pub circuits_refusals : (e : RunFault) → CircuitsStop r names e → Refusals r l names (Or e)
  circuits_refusals (fault.Program i e) stop = at_circuit i e stop
  circuits_refusals (fault.Job e) stop = absurd stop
  circuits_refusals fault.Unwritten stop = absurd stop
  circuits_refusals fault.Memory stop = out_of_memory (Or fault.Memory) (λ f. inr tt)

  pub circuits_exact : (e : RunFault) (s : Sides) → CircuitsStop r names e → TellAllSides r l names → StandForSides r l names s → IsOutside e
  circuits_exact (fault.Program i e) s stop told stand = blocked_at i e s.circuits told.0.0 stand.on.circuits stop
  circuits_exact (fault.Job e) s stop told stand = absurd stop
  circuits_exact fault.Unwritten s stop told stand = absurd stop
  circuits_exact fault.Memory s stop told stand = tt

  -- ---- the circuits are read
  module _ (cs : List Circuit) (are : AreCircuits r names cs) where
    pub same : (ds : List Circuit) → CircuitsTold r names (length names) → AreCircuits r names ds → cs ≡ ds
    same ds told are' =
        circuits_same laws r names cs ds are.stand are'.stand (let a = are.all in let b = are'.all in omega (arith, a, b))
        (λ i below. told i (let a = are.all in omega (arith, a, below)))

    pub no_circuit : (j : ℕ) (x : CircuitFault) → CircuitsTold r names (2 * j + 1) → StopsAtCircuit r names j (job.Circuit x) → ⊥
    no_circuit j x told (below, (ds, stand, count, stops)) =
        circuit_blocked laws r names cs j (job.Circuit x) are.stand (let a = are.all in omega (arith, a, below)) (told j (omega arith)) stops

    -- they can't be joined
    many_refusals : (e : JobFault) → AreTooMany cs e → Refusals r l names (Or (fault.Job e))
    many_refusals e (is, past) = record {
      circuit = λ j x told s. absurd (no_circuit j x told s);
      join = λ ds x told are' many. inl (ap fault.Job (is ∙ sym many.0));
      layout = λ ds x told are' within refused. absurd (past (subst (λ (ys : List Circuit). IsWithin (sums_of ys)) (sym (same ds told.0 are')) within));
      table = λ j x told tables (ds, g, on, s). absurd (past (subst (λ (ys : List Circuit). IsWithin (sums_of ys)) (sym (same ds told.0 on.circuits)) on.within));
    }

    pub join_refusals : (e : RunFault) → JoinStops cs e → Refusals r l names (Or e)
    join_refusals (fault.Program i e) stop = absurd stop
    join_refusals (fault.Job e) stop = many_refusals e stop
    join_refusals fault.Unwritten stop = absurd stop
    join_refusals fault.Memory stop = out_of_memory (Or fault.Memory) (λ f. inr tt)

    pub join_exact : (e : RunFault) (s : Sides) → JoinStops cs e → TellAllSides r l names → StandForSides r l names s → IsOutside e
    join_exact (fault.Program i e) s stop told stand = absurd stop
    join_exact (fault.Job e) s (is, past) told stand = absurd (past (subst (λ (ys : List Circuit). IsWithin (sums_of ys)) (sym (same s.circuits told.0.0 stand.on.circuits)) stand.on.within))
    join_exact fault.Unwritten s stop told stand = absurd stop
    join_exact fault.Memory s stop told stand = tt

    -- ---- they are joined, and the layout is refused
    pub layout_refusals : IsWithin (sums_of cs) → (e : JobFault)
        → ((g : Grid) → (IsNamed l → IsTold (seen_on r l)) → LayoutStands l (seen_on r l) (joined_circuit cs) g → IsOutside (fault.Job e))
        → ((x : LayoutFault) → (IsNamed l → IsTold (seen_on r l)) → LayoutRefused l (seen_on r l) (joined_circuit cs) x → Or (fault.Job e) (fault.Job (job.Layout x)))
        → Refusals r l names (Or (fault.Job e))
    layout_refusals within e exact faults = record {
      circuit = λ j x told s. absurd (no_circuit j x told s);
      join = λ ds x told are' many. absurd (many.1 (subst (λ (ys : List Circuit). IsWithin (sums_of ys)) (same ds told are') within));
      layout = λ ds x told are' within' refused. faults x told.1 (subst (λ (ys : List Circuit). LayoutRefused l (seen_on r l) (joined_circuit ys) x) (sym (same ds told.0 are')) refused);
      table = λ j x told tables (ds, g, on, s). inr (exact g told.1 (subst (λ (ys : List Circuit). LayoutStands l (seen_on r l) (joined_circuit ys) g) (sym (same ds told.0 on.circuits)) on.layout));
    }

    -- ---- the layout is read
    module _ (within : IsWithin (sums_of cs)) (g : Grid)
        (once : (h : Grid) → (IsNamed l → IsTold (seen_on r l)) → LayoutStands l (seen_on r l) (joined_circuit cs) h → g ≡ h)
        (none : (x : LayoutFault) → (IsNamed l → IsTold (seen_on r l)) → LayoutRefused l (seen_on r l) (joined_circuit cs) x → ⊥) where
      -- the outcomes of some program can't be read or are refused, for the same circuits and layout
      as_here : (j : ℕ) (x : JobFault) → LayoutTold r l names → StopsAtTable r l names j x → StopsAtOutcomes r names cs g j x
      as_here j x told (ds, h, on, s) =
          let e = same ds told.0 on.circuits in
          let at = once h told.1 (subst (λ (ys : List Circuit). LayoutStands l (seen_on r l) (joined_circuit ys) h) (sym e) on.layout) in
          subst (λ (k : Grid). StopsAtOutcomes r names cs k j x) (sym at) (subst (λ (ys : List Circuit). StopsAtOutcomes r names ys h j x) (sym e) s)

      -- whatever the tables say
      tables_only : (P : RunFault → Type 0) → ((j : ℕ) (x : OutcomeFault) → TablesTold r names (2 * j + 2) → StopsAtOutcomes r names cs g j (job.Outcomes x) → P (fault.Program j (job.Outcomes x))) → Refusals r l names P
      tables_only P at = record {
        circuit = λ j x told s. absurd (no_circuit j x told s);
        join = λ ds x told are' many. absurd (many.1 (subst (λ (ys : List Circuit). IsWithin (sums_of ys)) (same ds told are') within));
        layout = λ ds x told are' within' refused. absurd (none x told.1 (subst (λ (ys : List Circuit). LayoutRefused l (seen_on r l) (joined_circuit ys) x) (sym (same ds told.0 are')) refused));
        table = λ j x told tables s. at j x tables (as_here j (job.Outcomes x) told s);
      }

      two_tables : (i j : ℕ) (e : JobFault) (x : OutcomeFault) → TablesTold r names (2 * j + 2) → StopsAtOutcomes r names cs g i e → StopsAtOutcomes r names cs g j (job.Outcomes x) →
          Or (fault.Program i e) (fault.Program j (job.Outcomes x))
      two_tables i j e x told (os, c, stand, count, at, stops) (os', c', stand', count', at', stops') = elim (less_or_more i j) [
        | inl lt ↦ inr (table_blocked laws r names cs g os' c i e stand' (omega (arith, lt, count')) at (told i (omega (arith, lt))) stops)
        | inr (inl is) ↦ here is
        | inr (inr gt) ↦ absurd (table_blocked laws r names cs g os c' j (job.Outcomes x) stand (omega (arith, gt, count)) at' (told j (omega arith)) stops')
      ]
        where
          here : i ≡ j → Or (fault.Program i e) (fault.Program j (job.Outcomes x))
          here is = elim (again (subst (λ (k : ℕ). StopsAtOutcomes r names cs g k (job.Outcomes x)) (sym is) (os', c', stand', count', at', stops'))) [
            | inl one ↦ inl (subst (λ (k : ℕ). fault.Program i e ≡ fault.Program k (job.Outcomes x)) is (ap (fault.Program i) one))
            | inr out ↦ inr out
          ]
            where
              again : StopsAtOutcomes r names cs g i (job.Outcomes x) → (e ≡ job.Outcomes x) ⊎ IsOutside (fault.Program i e)
              again (os'', c'', stand'', count'', at'', stops'') =
                  table_once laws (seen_on r (outcomes_at names i)) i c g e x (told i (omega (arith, is))) stops
                  (let same_c = same_Some c'' c (sym at'' ∙ at) in rw same_c at stops'')

      pub tables_refusals : (e : RunFault) → TablesStop r names cs g e → Refusals r l names (Or e)
      tables_refusals (fault.Program i e) stop = tables_only (Or (fault.Program i e)) (λ j x told s. two_tables i j e x told stop s)
      tables_refusals (fault.Job e) stop = absurd stop
      tables_refusals fault.Unwritten stop = absurd stop
      tables_refusals fault.Memory stop = out_of_memory (Or fault.Memory) (λ f. inr tt)

      -- all is read
      pub none_refused : (os : List Outcomes) → TablesStand r names cs g os → length os ≡ length cs → Refusals r l names (λ f. ⊥)
      none_refused os stand count = tables_only (λ f. ⊥) (λ j x told (os', c, stand', count', at, stops).
          table_blocked laws r names cs g os c j (job.Outcomes x) stand (let b = slice_get_within cs j c at in omega (arith, b, count)) at (told j (omega arith)) stops)

      pub tables_exact : (e : RunFault) (s : Sides) → TablesStop r names cs g e → TellAllSides r l names → StandForSides r l names s → IsOutside e
      tables_exact (fault.Program i e) s (os, c, stand, count, at, stops) told st =
          let same_cs = same s.circuits told.0.0 st.on.circuits in
          let same_g = once s.layout told.0.1 (subst (λ (ys : List Circuit). LayoutStands l (seen_on r l) (joined_circuit ys) s.layout) (sym same_cs) st.on.layout) in
          let below : i < length cs = slice_get_within cs i c at in
          table_blocked laws r names cs g s.tables c i e
          (subst (λ (k : Grid). TablesStand r names cs k s.tables) (sym same_g) (subst (λ (ys : List Circuit). TablesStand r names ys s.layout s.tables) (sym same_cs) st.tables))
          (let a = st.all in let b = ap length same_cs in omega (arith, a, b, below)) at (told.1 i (let a = are.all in omega (arith, a, below))) stops
      tables_exact (fault.Job e) s stop told st = absurd stop
      tables_exact fault.Unwritten s stop told st = absurd stop
      tables_exact fault.Memory s stop told st = tt
