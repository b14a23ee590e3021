-- All products are done, and what was claimed is delivered and released, so the history is complete.
use Rattle.std.proofs.Common.{List, sym, subst}
use Rattle.source_model.specs.declared.Given.{Given}
use Rattle.board_core.specs.Legal.{Complete}
use Rattle.board_core.specs.Position.{past}
use Rattle.source_model.specs.Statics.{AreOutcomesOf}
use Rattle.finish_run.specs.Finished.{own_or_given}
use Rattle.finish_run.proofs.Completing.{complete}
use Rattle.finish_run.proofs.ending.finish_by.Goals as goal

pub bring-requires : goal.bring-requires
bring-requires g c = subst (λ (l : List Given). AreOutcomesOf l c.args.board.job.products) (sym c.as_slice.ensures) c.requires

pub returns-in-Ok-clause-complete : goal.returns-in-Ok-clause-complete
returns-in-Ok-clause-complete g c =
    subst (λ (l : List Given). Complete c.bring.new.board.job (past c.bring.new.board) (own_or_given (past c.args.board) l)) c.as_slice.ensures
    (complete g.P.Planner.meets c.as_slice.result.now c.args.board c.bring.new.board c.in-Ok.ensures.goes c.in-Ok.ensures.legal c.in-Ok.ensures.idle c.in-Ok.ensures.done)
