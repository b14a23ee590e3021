use Rattle.rotation_list.specs.Generated.{outcome_words}
use Rattle.rotation_list.proofs.Drawing.{line_put}
use Rattle.rotation_list.proofs.jobs.print_outcome.Goals as goal

pub returns : goal.returns
returns c = line_put (outcome_words c.args.kind c.args.product c.args.drawn) _ _ _ c.in_ok-print_given.ensures c.in_ok-push.ensures.items
