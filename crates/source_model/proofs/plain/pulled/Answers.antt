use Rattle.std.proofs.Common.{◌≡◌, ◌-◌, ◌<◌, suc, length, arith, ap, ◌∙◌}
use Rattle.pauli_product.specs.Pulls.{conj}
use Rattle.pauli_product.proofs.Laws.{conj_length}
use Rattle.source_model.proofs.Pulling.{pull_drop, length_of_turn}
use Rattle.source_model.proofs.plain.pulled.Goals as goal

pub loop-i-preserved : goal.loop-i-preserved
loop-i-preserved c =
    let turns = c.args.turns.now in
    let t = c.index-turns-i.result in
    let n = length c.args.p.now.letters in
    let i = c.loop-i.i in
    let step : suc (i - 1) ≡ i = omega arith in
    let within : i - 1 < length turns = omega arith in
    let fits = length_of_turn n turns (i - 1) t c.requires within c.index-turns-i.is in
    record {
      acted =
          c.act_on.ensures
          ∙ ap (conj t.axis t.angle) c.loop-i.invariant.acted
          ∙ pull_drop turns (i - 1) i t c.args.p.now step within c.index-turns-i.is;
      long = ap (λ q. length q.letters) c.act_on.ensures ∙ conj_length n t.axis t.angle c.loop-i.image fits c.loop-i.invariant.long;
    }
