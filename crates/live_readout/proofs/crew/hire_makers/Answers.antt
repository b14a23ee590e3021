use Rattle.std.proofs.Common.{◌+◌, ◌++◌, ◌∷◌, [], List, length, refl, ap, ◌∙◌, arith, append_assoc, length-append}
use Rattle.std.proofs.lemmas.List.Elements.{All-push}
use Rattle.router_work.proofs.Crews.{new_pass, split_on}
use Rattle.live_readout.specs.declared.worker.Worker.{Worker}
use Rattle.live_readout.specs.declared.worker.Worker.TheVariants.{Make}
use Rattle.live_readout.specs.inside.Workers.{IsHired}
use Rattle.live_readout.proofs.crew.hire_makers.Goals as goal

pub new-requires-clause-factory : goal.new-requires-clause-factory
new-requires-clause-factory g c = c.requires.factories c.loop-factory.factory-index 0 (omega arith)

pub loop-factory-preserved : goal.loop-factory-preserved
loop-factory-preserved g c =
    let at = c.loop-factory in
    let n = length c.args.workers.items in
    let m = length c.args.factories.now in
    let w : Worker g.row.G.Denot = Make c.new.result in
    let more : List (Worker g.row.G.Denot) = at.invariant.hired.0 in
    let is = at.invariant.hired.1 in
    let count = at.invariant.hired.2 in
    let few = c.requires.few in
    let new = new_pass c.args.grid.now n n (n + m) at.factory-index c.args.first.now at.first c.new.result.pass c.requires.first at.invariant.first (c.new.ensures.pass ∙ c.next_pass-pass.ensures.new) (omega arith) (omega arith) in
    record {
      hired = (
        more ++ w ∷ [],
        c.push_reserved.ensures.items ∙ (ap (λ (l : List (Worker g.row.G.Denot)). l ++ w ∷ []) is ∙ append_assoc c.args.workers.items more (w ∷ [])),
        omega (arith, length-append more (w ∷ [])),
        All-push (IsHired c.args.grid.now n m) more w at.invariant.hired.3 new,
      );
      capacity = c.push_reserved.ensures.capacity ∙ at.invariant.capacity;
      first = split_on c.args.first.now at.first c.next_pass-pass.new.first at.factory-index 1 (at.factory-index + 1) at.invariant.first c.next_pass-pass.ensures.first refl;
    }
