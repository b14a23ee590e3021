use Rattle.std.proofs.Common.{length}
use Rattle.layer_pass.proofs.draft.place_of.Goals as goal

pub search-requires-clause-top : goal.search-requires-clause-top
search-requires-clause-top c = c.top_row-top.ensures (length c.args.rows.now) c.requires.within
