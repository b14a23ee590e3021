use Rattle.std.proofs.Common.{◌≡◌, ◌+◌, ◌<◌, List, length, map, string_bytes, slice_get, Some, sym, ◌∙◌, subst, refl, arith}
use Rattle.std.proofs.lemmas.Option.{slice_get_read}
use Rattle.outcome_table.specs.declared.Outcomes.{Outcomes}
use Rattle.job_read.specs.Shelves.{shelved}
use Rattle.run_top.specs.Sides.{TablesStand}
use Rattle.run_top.specs.inside.Reads.{AreTablesFor, TablesStop}
use Rattle.run_top.proofs.Lists.{one_more}
use Rattle.run_top.proofs.Steps.{by_err, next_fit, next_table, tables_stopped}
use Rattle.run_top.proofs.sides.load_tables.Goals as goal

pub returns-in_err-table-clause-stops : goal.returns-in_err-table-clause-stops
returns-in_err-table-clause-stops g c =
    let names = map string_bytes c.args.pairs.now in
    let cs = c.args.circuits.now in
    let i = c.loop-program.program in
    let x = c.index-circuits-program.result in
    let low : i < length cs = omega (arith, c.loop-program-test.true, c.loop-program.auto.program-end) in
    let at : slice_get cs i ≡ Some x = slice_get_read cs (length cs) i x refl low c.index-circuits-program.is in
    by_err (TablesStop (shelved g.S.Shelf.tells g.S.Shelf.faults c.args.shelf.now c.load_table.new.shelf) names cs c.args.layout.now) c.from_residual-in_err-table.result c.in_err-table.field-0.0 c.from_residual-in_err-table.ensures.1
    (tables_stopped (g.S.Shelf.tells c.args.shelf.now) (g.S.Shelf.tells c.loop-program.shelf) (g.S.Shelf.faults c.args.shelf.now) (g.S.Shelf.faults c.loop-program.shelf) (g.S.Shelf.faults c.load_table.new.shelf)
    (record { told = c.loop-program.invariant.told; counts = c.loop-program.invariant.counts })
    names cs c.args.layout.now c.loop-program.tables.items x i c.in_err-table.field-0.0 c.loop-program.invariant.count at c.loop-program.invariant.stand
    (c.in_err-table.ensures.stops c.args.layout.now c.known_to-known.ensures))

pub loop-program-preserved : goal.loop-program-preserved
loop-program-preserved g c =
    let names = map string_bytes c.args.pairs.now in
    let inv = c.loop-program.invariant in
    let cs = c.args.circuits.now in
    let os = c.loop-program.tables.items in
    let o = c.in_ok-table.table in
    let i = c.loop-program.program in
    let x = c.index-circuits-program.result in
    let low : i < length cs = omega (arith, c.loop-program-test.true, c.loop-program.auto.program-end) in
    let at : slice_get cs i ≡ Some x = slice_get_read cs (length cs) i x refl low c.index-circuits-program.is in
    record {
      told = λ n. c.in_ok-table.ensures.told n ∙ inv.told n;
      counts = λ n. let a = inv.counts n in let b = c.in_ok-table.ensures.counts n in omega (arith, a, b);
      count = subst (λ (ys : List Outcomes). length ys ≡ i + 1) (sym c.in_ok-push.ensures.items) (one_more os o i inv.count);
      kept = subst (AreTablesFor cs) (sym c.in_ok-push.ensures.items) (next_fit cs os x o i inv.count at inv.kept c.in_ok-table.ensures.kept);
      stand = subst (TablesStand (shelved g.S.Shelf.tells g.S.Shelf.faults c.args.shelf.now c.load_table.new.shelf) names cs c.args.layout.now) (sym c.in_ok-push.ensures.items)
          (next_table (g.S.Shelf.tells c.args.shelf.now) (g.S.Shelf.tells c.loop-program.shelf) (g.S.Shelf.faults c.args.shelf.now) (g.S.Shelf.faults c.loop-program.shelf) (g.S.Shelf.faults c.load_table.new.shelf)
          (record { told = inv.told; counts = inv.counts })
          names cs c.args.layout.now os x o i inv.count at inv.stand (c.in_ok-table.ensures.stands c.args.layout.now c.known_to-known.ensures));
    }
