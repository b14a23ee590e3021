use Rattle.std.proofs.Common.{◌≡◌, ◌+◌, ◌*◌, ◌<◌, List, [], ◌∷◌, length, map, string_bytes, sym, ◌∙◌, subst, arith}
use Rattle.std.specs.List.{All}
use Rattle.std.proofs.lemmas.List.{length-map}
use Rattle.std.proofs.lemmas.List.Elements.{All-nil, All-cons, All-append}
use Rattle.source_model.specs.declared.Circuit.{Circuit}
use Rattle.job_read.specs.Kept.{IsCircuit}
use Rattle.job_read.specs.Shelves.{shelved}
use Rattle.run_top.specs.Sides.{CircuitsStand}
use Rattle.run_top.specs.inside.Reads.{CircuitsStop}
use Rattle.run_top.proofs.Lists.{one_more}
use Rattle.run_top.proofs.Steps.{by_err, circuits_stopped, next_circuit}
use Rattle.run_top.proofs.sides.load_circuits.Goals as goal

pub returns-in_err-circuit-clause-stops : goal.returns-in_err-circuit-clause-stops
returns-in_err-circuit-clause-stops g c =
    let names = map string_bytes c.args.pairs.now in
    let i = c.loop-program.program in
    let below : 2 * i < length names = omega (arith, length-map c.args.pairs.now string_bytes, c.loop-program-test.true, c.loop-program.auto.program-end) in
    by_err (CircuitsStop (shelved g.S.Shelf.tells g.S.Shelf.faults c.args.shelf.now c.load_one.new.shelf) names) c.from_residual.result c.in_err-circuit.field-0.0 c.from_residual.ensures.1
    (circuits_stopped (g.S.Shelf.tells c.args.shelf.now) (g.S.Shelf.tells c.loop-program.shelf) (g.S.Shelf.faults c.args.shelf.now) (g.S.Shelf.faults c.loop-program.shelf) (g.S.Shelf.faults c.load_one.new.shelf)
    (record { told = c.loop-program.invariant.told; counts = c.loop-program.invariant.counts })
    names c.loop-program.circuits.items i c.in_err-circuit.field-0.0 c.loop-program.invariant.count below c.loop-program.invariant.stand c.in_err-circuit.ensures.stops)

pub loop-program-preserved : goal.loop-program-preserved
loop-program-preserved g c =
    let names = map string_bytes c.args.pairs.now in
    let inv = c.loop-program.invariant in
    let x = c.in_ok-circuit.circuit in
    let xs = c.loop-program.circuits.items in
    record {
      told = λ n. c.in_ok-circuit.ensures.told n ∙ inv.told n;
      counts = λ n. let a = inv.counts n in let b = c.in_ok-circuit.ensures.counts n in omega (arith, a, b);
      count = subst (λ (ys : List Circuit). length ys ≡ c.loop-program.program + 1) (sym c.in_ok-push.ensures.items) (one_more xs x c.loop-program.program inv.count);
      kept = subst (All IsCircuit) (sym c.in_ok-push.ensures.items) (All-append IsCircuit xs (x ∷ []) inv.kept (All-cons IsCircuit x [] c.in_ok-circuit.ensures.kept (All-nil IsCircuit)));
      stand = subst (CircuitsStand (shelved g.S.Shelf.tells g.S.Shelf.faults c.args.shelf.now c.load_one.new.shelf) names) (sym c.in_ok-push.ensures.items)
          (next_circuit (g.S.Shelf.tells c.args.shelf.now) (g.S.Shelf.tells c.loop-program.shelf) (g.S.Shelf.faults c.args.shelf.now) (g.S.Shelf.faults c.loop-program.shelf) (g.S.Shelf.faults c.load_one.new.shelf)
          (record { told = inv.told; counts = inv.counts })
          names xs x c.loop-program.program inv.count inv.stand c.in_ok-circuit.ensures.stands);
    }
