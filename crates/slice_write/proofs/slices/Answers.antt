use Rattle.slice_write.proofs.Parts.{parts_legal, parts_factories}
use Rattle.slice_write.proofs.slices.Goals as goal

pub slice_history-requires-clause-legal : goal.slice_history-requires-clause-legal
slice_history-requires-clause-legal c = parts_legal c.args.board.now _ _ _ _ c.history.ensures.legal c.products.ensures c.layout.ensures c.fails.ensures c.history.ensures.value

pub slice_history-requires-clause-factories : goal.slice_history-requires-clause-factories
slice_history-requires-clause-factories c = parts_factories c.args.board.now c.layout.result.now c.history.ensures.legal c.layout.ensures
