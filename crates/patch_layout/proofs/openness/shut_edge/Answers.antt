use Rattle.patch_layout.proofs.Opening.{both_edges}
use Rattle.patch_layout.proofs.openness.shut_edge.Goals as goal

pub returns : goal.returns
returns c = both_edges c.args.layout.now c.args.qubit (c.is_open.ensures.0 c.if-not-is_open.false) (c.is_open-2.ensures.0 c.if-not-is_open-2.false)
