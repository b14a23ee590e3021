use Rattle.slice_write.proofs.Parts.{parts_legal, parts_factories}
use Rattle.slice_write.proofs.write_slices.Goals as goal

pub write_history_slices-requires-clause-legal : goal.write_history_slices-requires-clause-legal
write_history_slices-requires-clause-legal g c = parts_legal c.args.board.now _ _ _ _ c.history.ensures.legal c.products.ensures c.layout.ensures c.fails.ensures c.history.ensures.value

pub write_history_slices-requires-clause-factories : goal.write_history_slices-requires-clause-factories
write_history_slices-requires-clause-factories g c = parts_factories c.args.board.now c.layout.result.now c.history.ensures.legal c.layout.ensures
