use Rattle.std.proofs.Common.{◌≡◌, List, inl, inr, refl, length, map, string_bytes, ap, ◌∙◌, subst, arith}
use Rattle.source_model.specs.declared.Circuit.{Circuit}
use Rattle.job_read.specs.Shelves.{seen_on, shelved}
use Rattle.job_read.specs.Stages.{LayoutStands}
use Rattle.side_by_side.specs.Joined.{IsJoinOf, joined_circuit}
use Rattle.run_top.specs.declared.fault.RunFault.TheVariants as fault
use Rattle.run_top.specs.Sides.{AreCircuits, AreOnLayout, TablesStand}
use Rattle.run_top.specs.SideFaults.{StopsAtSides}
use Rattle.run_top.specs.Told.{IsOutside}
use Rattle.run_top.specs.inside.Reads.{AreTablesFor, JoinStops, TablesStop}
use Rattle.run_top.proofs.Once.{Laws}
use Rattle.run_top.proofs.Refusals.{Or, by_kind, circuits_exact, circuits_refusals, join_exact, join_refusals, layout_refusals, none_refused, tables_exact, tables_refusals}
use Rattle.run_top.proofs.Shifts.{here_refused, here_stands, layout_stands, named_told}
use Rattle.run_top.proofs.SideJob.{tables_of}
use Rattle.run_top.proofs.SideRead.{circuit_kept, layout_end, layout_exact, side_job, tables_end, tables_on, tables_stop_on}
use Rattle.run_top.proofs.Steps.{IsPart, by_ends, by_err}
use Rattle.run_top.proofs.sides.read_sides.Goals as goal

pub returns-in_err-circuits-clause-exact : goal.returns-in_err-circuits-clause-exact
returns-in_err-circuits-clause-exact g c = λ s told stand.
    let r = shelved g.S.Shelf.tells g.S.Shelf.faults c.args.shelf.now c.load_circuits.new.shelf in
    let laws : Laws = record { one = c.law_one_circuit.ensures.one; apart = c.law_one_circuit.ensures.apart; one_fault = c.law_one_circuit.ensures.one_fault; table_fault = c.law_one_fault.ensures; table_apart = c.law_table_or_fault.ensures } in
    by_err IsOutside c.from_residual.result c.in_err-circuits.field-0.0 c.from_residual.ensures.1
    (circuits_exact laws r c.args.layout.now (map string_bytes c.args.pairs.now) c.in_err-circuits.field-0.0 s c.in_err-circuits.ensures.stops told stand)

pub returns-in_err-circuits-clause-faults : goal.returns-in_err-circuits-clause-faults
returns-in_err-circuits-clause-faults g c = λ f refused.
    let r = shelved g.S.Shelf.tells g.S.Shelf.faults c.args.shelf.now c.load_circuits.new.shelf in
    let names = map string_bytes c.args.pairs.now in
    let e = c.in_err-circuits.field-0.0 in
    let laws : Laws = record { one = c.law_one_circuit.ensures.one; apart = c.law_one_circuit.ensures.apart; one_fault = c.law_one_circuit.ensures.one_fault; table_fault = c.law_one_fault.ensures; table_apart = c.law_table_or_fault.ensures } in
    by_ends f c.from_residual.result e c.from_residual.ensures.1
    (by_kind r c.args.layout.now names (Or e) (circuits_refusals laws r c.args.layout.now names e c.in_err-circuits.ensures.stops) f refused)

pub returns-in_err-joined-clause-exact : goal.returns-in_err-joined-clause-exact
returns-in_err-joined-clause-exact g c = λ s told stand.
    let r = shelved g.S.Shelf.tells g.S.Shelf.faults c.args.shelf.now c.load_circuits.new.shelf in
    let names = map string_bytes c.args.pairs.now in
    let e = c.in_err-joined.field-0.0 in
    let laws : Laws = record { one = c.law_one_circuit.ensures.one; apart = c.law_one_circuit.ensures.apart; one_fault = c.law_one_circuit.ensures.one_fault; table_fault = c.law_one_fault.ensures; table_apart = c.law_table_or_fault.ensures } in
    by_err IsOutside c.from_residual-in_err-joined.result e c.from_residual-in_err-joined.ensures.1
    (join_exact laws r c.args.layout.now names c.in_ok-circuits.circuits.items c.in_ok-circuits.ensures.stand e s
    (subst (λ (cs : List Circuit). JoinStops cs e) c.deref.ensures.value c.in_err-joined.ensures.stops) told stand)

pub returns-in_err-joined-clause-faults : goal.returns-in_err-joined-clause-faults
returns-in_err-joined-clause-faults g c = λ f refused.
    let r = shelved g.S.Shelf.tells g.S.Shelf.faults c.args.shelf.now c.load_circuits.new.shelf in
    let names = map string_bytes c.args.pairs.now in
    let e = c.in_err-joined.field-0.0 in
    let laws : Laws = record { one = c.law_one_circuit.ensures.one; apart = c.law_one_circuit.ensures.apart; one_fault = c.law_one_circuit.ensures.one_fault; table_fault = c.law_one_fault.ensures; table_apart = c.law_table_or_fault.ensures } in
    by_ends f c.from_residual-in_err-joined.result e c.from_residual-in_err-joined.ensures.1
    (by_kind r c.args.layout.now names (Or e) (join_refusals laws r c.args.layout.now names c.in_ok-circuits.circuits.items c.in_ok-circuits.ensures.stand e
    (subst (λ (cs : List Circuit). JoinStops cs e) c.deref.ensures.value c.in_err-joined.ensures.stops)) f refused)

pub returns-in_err-layout-clause-stops : goal.returns-in_err-layout-clause-stops
returns-in_err-layout-clause-stops g c =
    let r = shelved g.S.Shelf.tells g.S.Shelf.faults c.args.shelf.now c.load_layout.new.shelf in
    let names = map string_bytes c.args.pairs.now in
    let l = c.args.layout.now in
    let cs = c.in_ok-circuits.circuits.items in
    let joined = (subst (λ (cs : List Circuit). IsJoinOf cs c.in_ok-joined.joined) c.deref.ensures.value c.in_ok-joined.ensures.joined) in
    let are : AreCircuits r names cs = record { all = c.in_ok-circuits.ensures.stand.all; stand = λ i x at. c.in_ok-circuits.ensures.stand.stand i x at } in
    let e = c.in_err-layout.field-0.0 in
    by_err (StopsAtSides r l names) c.from_residual-in_err-layout.result (fault.Job e) c.from_residual-in_err-layout.ensures.1
    (layout_end (g.S.Shelf.tells c.args.shelf.now) (g.S.Shelf.tells c.load_circuits.new.shelf) (g.S.Shelf.faults c.args.shelf.now) (g.S.Shelf.faults c.load_circuits.new.shelf) (g.S.Shelf.faults c.load_layout.new.shelf) (record { told = c.in_ok-circuits.ensures.told; counts = c.in_ok-circuits.ensures.counts })
    l names cs c.in_ok-joined.joined.circuit e are joined.within joined.circuit c.in_err-layout.ensures.stops)

pub returns-in_err-layout-clause-exact : goal.returns-in_err-layout-clause-exact
returns-in_err-layout-clause-exact g c = λ sides told stand.
    let r = shelved g.S.Shelf.tells g.S.Shelf.faults c.args.shelf.now c.load_layout.new.shelf in
    let names = map string_bytes c.args.pairs.now in
    let l = c.args.layout.now in
    let cs = c.in_ok-circuits.circuits.items in
    let joined = (subst (λ (cs : List Circuit). IsJoinOf cs c.in_ok-joined.joined) c.deref.ensures.value c.in_ok-joined.ensures.joined) in
    let are : AreCircuits r names cs = record { all = c.in_ok-circuits.ensures.stand.all; stand = λ i x at. c.in_ok-circuits.ensures.stand.stand i x at } in
    let s = seen_on (shelved g.S.Shelf.tells g.S.Shelf.faults c.load_circuits.new.shelf c.load_layout.new.shelf) l in
    let t = seen_on r l in
    let told' = c.in_ok-circuits.ensures.told l in
    let c1 = c.in_ok-joined.joined.circuit in
    let d = joined_circuit cs in
    let laws : Laws = record { one = c.law_one_circuit.ensures.one; apart = c.law_one_circuit.ensures.apart; one_fault = c.law_one_circuit.ensures.one_fault; table_fault = c.law_one_fault.ensures; table_apart = c.law_table_or_fault.ensures } in
    let e = c.in_err-layout.field-0.0 in
    by_err IsOutside c.from_residual-in_err-layout.result (fault.Job e) c.from_residual-in_err-layout.ensures.1
    (layout_exact laws r l names cs are e
    (λ h named st. c.in_err-layout.ensures.exact h (named_told l s t told' c1 d joined.circuit named) (here_stands l s t told' c1 d joined.circuit h st))
    sides told stand)

pub returns-in_err-layout-clause-faults : goal.returns-in_err-layout-clause-faults
returns-in_err-layout-clause-faults g c = λ f refused.
    let r = shelved g.S.Shelf.tells g.S.Shelf.faults c.args.shelf.now c.load_layout.new.shelf in
    let names = map string_bytes c.args.pairs.now in
    let l = c.args.layout.now in
    let cs = c.in_ok-circuits.circuits.items in
    let joined = (subst (λ (cs : List Circuit). IsJoinOf cs c.in_ok-joined.joined) c.deref.ensures.value c.in_ok-joined.ensures.joined) in
    let are : AreCircuits r names cs = record { all = c.in_ok-circuits.ensures.stand.all; stand = λ i x at. c.in_ok-circuits.ensures.stand.stand i x at } in
    let s = seen_on (shelved g.S.Shelf.tells g.S.Shelf.faults c.load_circuits.new.shelf c.load_layout.new.shelf) l in
    let t = seen_on r l in
    let told' = c.in_ok-circuits.ensures.told l in
    let c1 = c.in_ok-joined.joined.circuit in
    let d = joined_circuit cs in
    let laws : Laws = record { one = c.law_one_circuit.ensures.one; apart = c.law_one_circuit.ensures.apart; one_fault = c.law_one_circuit.ensures.one_fault; table_fault = c.law_one_fault.ensures; table_apart = c.law_table_or_fault.ensures } in
    let e = c.in_err-layout.field-0.0 in
    by_ends f c.from_residual-in_err-layout.result (fault.Job e) c.from_residual-in_err-layout.ensures.1
    (by_kind r l names (Or (fault.Job e)) (layout_refusals laws r l names cs are joined.within e
    (λ h named st. c.in_err-layout.ensures.exact h (named_told l s t told' c1 d joined.circuit named) (here_stands l s t told' c1 d joined.circuit h st))
    (λ x named ref. elim (c.in_err-layout.ensures.faults x (named_told l s t told' c1 d joined.circuit named) (here_refused l s t told' c1 d joined.circuit x ref)) [ inl is ↦ inl (ap fault.Job is) | inr out ↦ inr out ]))
    f refused)

pub returns-in_err-tables-clause-stops : goal.returns-in_err-tables-clause-stops
returns-in_err-tables-clause-stops g c =
    let r = shelved g.S.Shelf.tells g.S.Shelf.faults c.args.shelf.now c.load_tables.new.shelf in
    let names = map string_bytes c.args.pairs.now in
    let l = c.args.layout.now in
    let cs = c.in_ok-circuits.circuits.items in
    let joined = (subst (λ (cs : List Circuit). IsJoinOf cs c.in_ok-joined.joined) c.deref.ensures.value c.in_ok-joined.ensures.joined) in
    let are : AreCircuits r names cs = record { all = c.in_ok-circuits.ensures.stand.all; stand = λ i x at. c.in_ok-circuits.ensures.stand.stand i x at } in
    let s = seen_on (shelved g.S.Shelf.tells g.S.Shelf.faults c.load_circuits.new.shelf c.load_layout.new.shelf) l in
    let t = seen_on r l in
    let told' = c.in_ok-circuits.ensures.told l in
    let c1 = c.in_ok-joined.joined.circuit in
    let d = joined_circuit cs in
    let grid = c.in_ok-layout.layout in
    let part : IsPart (g.S.Shelf.tells c.args.shelf.now) (g.S.Shelf.tells c.load_layout.new.shelf) (g.S.Shelf.faults c.args.shelf.now) (g.S.Shelf.faults c.load_layout.new.shelf) = record { told = λ n. c.in_ok-layout.ensures.told n ∙ c.in_ok-circuits.ensures.told n; counts = λ n. let a = c.in_ok-circuits.ensures.counts n in let b = c.in_ok-layout.ensures.counts n in omega (arith, a, b) } in
    let on : AreOnLayout r l names cs grid = record { circuits = are; within = joined.within; layout = layout_stands l s t d grid told' (subst (λ (x : Circuit). LayoutStands l s x grid) joined.circuit c.in_ok-layout.ensures.accepted) } in
    let e = c.in_err-tables.field-0.0 in
    let stop : TablesStop r names cs grid e = tables_stop_on (g.S.Shelf.tells c.args.shelf.now) (g.S.Shelf.tells c.load_layout.new.shelf) (g.S.Shelf.faults c.args.shelf.now) (g.S.Shelf.faults c.load_layout.new.shelf) (g.S.Shelf.faults c.load_tables.new.shelf) part names cs grid e (subst (λ (ys : List Circuit). TablesStop (shelved g.S.Shelf.tells g.S.Shelf.faults c.load_layout.new.shelf c.load_tables.new.shelf) names ys grid e) c.deref-3.ensures.value c.in_err-tables.ensures.stops) in
    by_err (StopsAtSides r l names) c.from_residual-in_err-tables.result e c.from_residual-in_err-tables.ensures.1 (tables_end r l names cs grid e on stop)

pub returns-in_err-tables-clause-exact : goal.returns-in_err-tables-clause-exact
returns-in_err-tables-clause-exact g c = λ sides told stand.
    let r = shelved g.S.Shelf.tells g.S.Shelf.faults c.args.shelf.now c.load_tables.new.shelf in
    let names = map string_bytes c.args.pairs.now in
    let l = c.args.layout.now in
    let cs = c.in_ok-circuits.circuits.items in
    let joined = (subst (λ (cs : List Circuit). IsJoinOf cs c.in_ok-joined.joined) c.deref.ensures.value c.in_ok-joined.ensures.joined) in
    let are : AreCircuits r names cs = record { all = c.in_ok-circuits.ensures.stand.all; stand = λ i x at. c.in_ok-circuits.ensures.stand.stand i x at } in
    let s = seen_on (shelved g.S.Shelf.tells g.S.Shelf.faults c.load_circuits.new.shelf c.load_layout.new.shelf) l in
    let t = seen_on r l in
    let told' = c.in_ok-circuits.ensures.told l in
    let c1 = c.in_ok-joined.joined.circuit in
    let d = joined_circuit cs in
    let grid = c.in_ok-layout.layout in
    let part : IsPart (g.S.Shelf.tells c.args.shelf.now) (g.S.Shelf.tells c.load_layout.new.shelf) (g.S.Shelf.faults c.args.shelf.now) (g.S.Shelf.faults c.load_layout.new.shelf) = record { told = λ n. c.in_ok-layout.ensures.told n ∙ c.in_ok-circuits.ensures.told n; counts = λ n. let a = c.in_ok-circuits.ensures.counts n in let b = c.in_ok-layout.ensures.counts n in omega (arith, a, b) } in
    let e = c.in_err-tables.field-0.0 in
    let stop : TablesStop r names cs grid e = tables_stop_on (g.S.Shelf.tells c.args.shelf.now) (g.S.Shelf.tells c.load_layout.new.shelf) (g.S.Shelf.faults c.args.shelf.now) (g.S.Shelf.faults c.load_layout.new.shelf) (g.S.Shelf.faults c.load_tables.new.shelf) part names cs grid e (subst (λ (ys : List Circuit). TablesStop (shelved g.S.Shelf.tells g.S.Shelf.faults c.load_layout.new.shelf c.load_tables.new.shelf) names ys grid e) c.deref-3.ensures.value c.in_err-tables.ensures.stops) in
    let laws : Laws = record { one = c.law_one_circuit.ensures.one; apart = c.law_one_circuit.ensures.apart; one_fault = c.law_one_circuit.ensures.one_fault; table_fault = c.law_one_fault.ensures; table_apart = c.law_table_or_fault.ensures } in
    by_err IsOutside c.from_residual-in_err-tables.result e c.from_residual-in_err-tables.ensures.1
    (tables_exact laws r l names cs are joined.within grid
    (λ h named st. c.in_ok-layout.ensures.exact h (named_told l s t told' c1 d joined.circuit named) (here_stands l s t told' c1 d joined.circuit h st))
    (λ x named ref. c.in_ok-layout.ensures.faults x (named_told l s t told' c1 d joined.circuit named) (here_refused l s t told' c1 d joined.circuit x ref))
    e sides stop told stand)

pub returns-in_err-tables-clause-faults : goal.returns-in_err-tables-clause-faults
returns-in_err-tables-clause-faults g c = λ f refused.
    let r = shelved g.S.Shelf.tells g.S.Shelf.faults c.args.shelf.now c.load_tables.new.shelf in
    let names = map string_bytes c.args.pairs.now in
    let l = c.args.layout.now in
    let cs = c.in_ok-circuits.circuits.items in
    let joined = (subst (λ (cs : List Circuit). IsJoinOf cs c.in_ok-joined.joined) c.deref.ensures.value c.in_ok-joined.ensures.joined) in
    let are : AreCircuits r names cs = record { all = c.in_ok-circuits.ensures.stand.all; stand = λ i x at. c.in_ok-circuits.ensures.stand.stand i x at } in
    let s = seen_on (shelved g.S.Shelf.tells g.S.Shelf.faults c.load_circuits.new.shelf c.load_layout.new.shelf) l in
    let t = seen_on r l in
    let told' = c.in_ok-circuits.ensures.told l in
    let c1 = c.in_ok-joined.joined.circuit in
    let d = joined_circuit cs in
    let grid = c.in_ok-layout.layout in
    let part : IsPart (g.S.Shelf.tells c.args.shelf.now) (g.S.Shelf.tells c.load_layout.new.shelf) (g.S.Shelf.faults c.args.shelf.now) (g.S.Shelf.faults c.load_layout.new.shelf) = record { told = λ n. c.in_ok-layout.ensures.told n ∙ c.in_ok-circuits.ensures.told n; counts = λ n. let a = c.in_ok-circuits.ensures.counts n in let b = c.in_ok-layout.ensures.counts n in omega (arith, a, b) } in
    let e = c.in_err-tables.field-0.0 in
    let stop : TablesStop r names cs grid e = tables_stop_on (g.S.Shelf.tells c.args.shelf.now) (g.S.Shelf.tells c.load_layout.new.shelf) (g.S.Shelf.faults c.args.shelf.now) (g.S.Shelf.faults c.load_layout.new.shelf) (g.S.Shelf.faults c.load_tables.new.shelf) part names cs grid e (subst (λ (ys : List Circuit). TablesStop (shelved g.S.Shelf.tells g.S.Shelf.faults c.load_layout.new.shelf c.load_tables.new.shelf) names ys grid e) c.deref-3.ensures.value c.in_err-tables.ensures.stops) in
    let laws : Laws = record { one = c.law_one_circuit.ensures.one; apart = c.law_one_circuit.ensures.apart; one_fault = c.law_one_circuit.ensures.one_fault; table_fault = c.law_one_fault.ensures; table_apart = c.law_table_or_fault.ensures } in
    by_ends f c.from_residual-in_err-tables.result e c.from_residual-in_err-tables.ensures.1
    (by_kind r l names (Or e) (tables_refusals laws r l names cs are joined.within grid
    (λ h named st. c.in_ok-layout.ensures.exact h (named_told l s t told' c1 d joined.circuit named) (here_stands l s t told' c1 d joined.circuit h st))
    (λ x named ref. c.in_ok-layout.ensures.faults x (named_told l s t told' c1 d joined.circuit named) (here_refused l s t told' c1 d joined.circuit x ref))
    e stop) f refused)

pub returns-clause-faults : goal.returns-clause-faults
returns-clause-faults g c = λ f refused.
    let r = shelved g.S.Shelf.tells g.S.Shelf.faults c.args.shelf.now c.load_tables.new.shelf in
    let names = map string_bytes c.args.pairs.now in
    let l = c.args.layout.now in
    let cs = c.in_ok-circuits.circuits.items in
    let joined = (subst (λ (cs : List Circuit). IsJoinOf cs c.in_ok-joined.joined) c.deref.ensures.value c.in_ok-joined.ensures.joined) in
    let are : AreCircuits r names cs = record { all = c.in_ok-circuits.ensures.stand.all; stand = λ i x at. c.in_ok-circuits.ensures.stand.stand i x at } in
    let s = seen_on (shelved g.S.Shelf.tells g.S.Shelf.faults c.load_circuits.new.shelf c.load_layout.new.shelf) l in
    let t = seen_on r l in
    let told' = c.in_ok-circuits.ensures.told l in
    let c1 = c.in_ok-joined.joined.circuit in
    let d = joined_circuit cs in
    let grid = c.in_ok-layout.layout in
    let part : IsPart (g.S.Shelf.tells c.args.shelf.now) (g.S.Shelf.tells c.load_layout.new.shelf) (g.S.Shelf.faults c.args.shelf.now) (g.S.Shelf.faults c.load_layout.new.shelf) = record { told = λ n. c.in_ok-layout.ensures.told n ∙ c.in_ok-circuits.ensures.told n; counts = λ n. let a = c.in_ok-circuits.ensures.counts n in let b = c.in_ok-layout.ensures.counts n in omega (arith, a, b) } in
    let os = c.in_ok-tables.tables.items in
    let count : length os ≡ length cs = c.in_ok-tables.ensures.count ∙ ap length c.deref-3.ensures.value in
    let fit : AreTablesFor cs os = subst (λ (ys : List Circuit). AreTablesFor ys os) c.deref-3.ensures.value c.in_ok-tables.ensures.kept in
    let tables : TablesStand r names cs grid os = tables_on (g.S.Shelf.tells c.args.shelf.now) (g.S.Shelf.tells c.load_layout.new.shelf) (g.S.Shelf.faults c.args.shelf.now) (g.S.Shelf.faults c.load_layout.new.shelf) (g.S.Shelf.faults c.load_tables.new.shelf) part names cs grid os (subst (λ (ys : List Circuit). TablesStand (shelved g.S.Shelf.tells g.S.Shelf.faults c.load_layout.new.shelf c.load_tables.new.shelf) names ys grid os) c.deref-3.ensures.value c.in_ok-tables.ensures.stand) in
    let laws : Laws = record { one = c.law_one_circuit.ensures.one; apart = c.law_one_circuit.ensures.apart; one_fault = c.law_one_circuit.ensures.one_fault; table_fault = c.law_one_fault.ensures; table_apart = c.law_table_or_fault.ensures } in
    absurd (by_kind r l names (λ x. ⊥) (none_refused laws r l names cs are joined.within grid
    (λ h named st. c.in_ok-layout.ensures.exact h (named_told l s t told' c1 d joined.circuit named) (here_stands l s t told' c1 d joined.circuit h st))
    (λ x named ref. c.in_ok-layout.ensures.faults x (named_told l s t told' c1 d joined.circuit named) (here_refused l s t told' c1 d joined.circuit x ref))
    os tables count) f refused)

pub returns-clause-read : goal.returns-clause-read
returns-clause-read g c =
    let r = shelved g.S.Shelf.tells g.S.Shelf.faults c.args.shelf.now c.load_tables.new.shelf in
    let names = map string_bytes c.args.pairs.now in
    let l = c.args.layout.now in
    let cs = c.in_ok-circuits.circuits.items in
    let joined = (subst (λ (cs : List Circuit). IsJoinOf cs c.in_ok-joined.joined) c.deref.ensures.value c.in_ok-joined.ensures.joined) in
    let are : AreCircuits r names cs = record { all = c.in_ok-circuits.ensures.stand.all; stand = λ i x at. c.in_ok-circuits.ensures.stand.stand i x at } in
    let s = seen_on (shelved g.S.Shelf.tells g.S.Shelf.faults c.load_circuits.new.shelf c.load_layout.new.shelf) l in
    let t = seen_on r l in
    let told' = c.in_ok-circuits.ensures.told l in
    let c1 = c.in_ok-joined.joined.circuit in
    let d = joined_circuit cs in
    let grid = c.in_ok-layout.layout in
    let part : IsPart (g.S.Shelf.tells c.args.shelf.now) (g.S.Shelf.tells c.load_layout.new.shelf) (g.S.Shelf.faults c.args.shelf.now) (g.S.Shelf.faults c.load_layout.new.shelf) = record { told = λ n. c.in_ok-layout.ensures.told n ∙ c.in_ok-circuits.ensures.told n; counts = λ n. let a = c.in_ok-circuits.ensures.counts n in let b = c.in_ok-layout.ensures.counts n in omega (arith, a, b) } in
    let on : AreOnLayout r l names cs grid = record { circuits = are; within = joined.within; layout = layout_stands l s t d grid told' (subst (λ (x : Circuit). LayoutStands l s x grid) joined.circuit c.in_ok-layout.ensures.accepted) } in
    let os = c.in_ok-tables.tables.items in
    let count : length os ≡ length cs = c.in_ok-tables.ensures.count ∙ ap length c.deref-3.ensures.value in
    let fit : AreTablesFor cs os = subst (λ (ys : List Circuit). AreTablesFor ys os) c.deref-3.ensures.value c.in_ok-tables.ensures.kept in
    let tables : TablesStand r names cs grid os = tables_on (g.S.Shelf.tells c.args.shelf.now) (g.S.Shelf.tells c.load_layout.new.shelf) (g.S.Shelf.faults c.args.shelf.now) (g.S.Shelf.faults c.load_layout.new.shelf) (g.S.Shelf.faults c.load_tables.new.shelf) part names cs grid os (subst (λ (ys : List Circuit). TablesStand (shelved g.S.Shelf.tells g.S.Shelf.faults c.load_layout.new.shelf c.load_tables.new.shelf) names ys grid os) c.deref-3.ensures.value c.in_ok-tables.ensures.stand) in
    let j = c.in_ok-joined.joined in
    side_job r l names cs os j (record { circuit = j.circuit; products = c.of.result; layout = grid; outcomes = c.in_ok-outcomes.outcomes }) joined refl on tables count fit
    c.in_ok-outcomes.ensures.given c.in_ok-outcomes.ensures.fails
    (λ few. record {
      circuit = circuit_kept cs j c.law_joined.ensures.products c.law_joined.ensures.letters c.in_ok-circuits.ensures.kept joined c.in_ok-joined.ensures.well_formed;
      products = c.of.ensures ∙ c.in_ok-products.ensures.products;
      same_kinds = c.law_kinds.ensures.statics j.circuit.items;
      sound = c.in_ok-layout.ensures.sound;
      open_for = c.in_ok-layout.ensures.accepted.1;
      right_kinds = c.in_ok-outcomes.ensures.kinds;
      few_fails = few;
    })

pub join_outcomes-requires : goal.join_outcomes-requires
join_outcomes-requires g c =
    tables_of c.in_ok-circuits.circuits.items c.in_ok-tables.tables.items c.in_ok-joined.joined
    (subst (λ (cs : List Circuit). IsJoinOf cs c.in_ok-joined.joined) c.deref.ensures.value c.in_ok-joined.ensures.joined)
    (c.in_ok-tables.ensures.count ∙ ap length c.deref-3.ensures.value) (subst (λ (ys : List Circuit). AreTablesFor ys c.in_ok-tables.tables.items) c.deref-3.ensures.value c.in_ok-tables.ensures.kept)
