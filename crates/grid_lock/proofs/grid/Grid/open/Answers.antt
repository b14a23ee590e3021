use Rattle.std.proofs.Common.{rules, length, ap, ◌∙◌}
use Rattle.grid_lock.proofs.Opens.{opens_with, rests_first}
use Rattle.grid_lock.proofs.grid.Grid.open.Goals as goal

pub new-requires : goal.new-requires
new-requires c = opens_with c.args.board _ _ _ c.of-about.ensures (search rules) (c.length-length.ensures ∙ ap length c.history.ensures.value) c.history.ensures.legal c.requires.numbers

pub invariant_of-result-in-Ok-new : goal.invariant_of-result-in-Ok-new
invariant_of-result-in-Ok-new c = rests_first c.args.board c.of-about.result.value _ (search rules) c.of-about.ensures c.history.ensures.legal c.requires.numbers
