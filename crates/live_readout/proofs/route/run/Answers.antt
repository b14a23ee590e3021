-- The routers' and makers' passes, and the deliverer's.
use Rattle.std.proofs.Common.{◌∙◌, [], ◌∷◌, ◌++◌, List, ap}
use Rattle.grid_lock.specs.Passes.{Known}
use Rattle.live_readout.proofs.Crews.{last_pass}
use Rattle.live_readout.proofs.route.run.Goals as goal

pub returns-clause-passes : goal.returns-clause-passes
returns-clause-passes g c =
    let relayed = c.relay-relayed in
    let others = relayed.ensures.others in
    let last = c.into_pass in
    let new = c.new-deliverer.ensures in (
      others.0.0,
      last.result,
      others.0.1,
      last_pass c.args.grid.now c.args.line _ c.args.pass last.result c.new-deliverer.result relayed.result.courier new.grid new.pass c.requires.new relayed.ensures.key last.ensures.pass last.ensures.grid last.ensures.calm last.ensures.made relayed.ensures.delivers,
      c.push_reserved.ensures.items ∙ ap (λ (l : List Known). l ++ last.result ∷ []) others.0.2,
    )
