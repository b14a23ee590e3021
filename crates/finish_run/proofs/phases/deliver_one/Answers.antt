-- The least product that is claimed and not done gets its outcome.
use Rattle.std.proofs.Common.{◌≡◌, ◌<◌, ℕ, List, Some, false, length, slice_get, get_or, sym, refl, below_more}
use Rattle.std.proofs.lemmas.Bool.{true≢false}
use Rattle.std.proofs.lemmas.Option.{slice_get-get_or}
use Rattle.source_model.specs.declared.Given.{Given}
use Rattle.source_model.specs.declared.Given.TheVariants.{Rotation}
use Rattle.finish_run.specs.Next.{never}
use Rattle.finish_run.proofs.Pending.{pending_deliverable, least_delivered, delivered_below}
use Rattle.finish_run.proofs.phases.deliver_one.Goals as goal

abbrev here : List Given → ℕ → Given
here gs p = get_or gs p (Rotation false false)

there : (gs : List Given) (p : ℕ) → p < length gs → slice_get gs p ≡ Some (here gs p)
there gs p l = slice_get-get_or gs p (Rotation false false) l

pub deliver-requires : goal.deliver-requires
deliver-requires c =
    pending_deliverable c.args.board.now c.args.p (here c.args.given.now c.args.p) c.args.given.now c.is_pending.ensures.legal c.requires.outcomes (c.if-is_pending.ensures.pending.0 refl) (there c.args.given.now c.args.p c.requires.within)

pub returns-in_ok-node-clause-goes : goal.returns-in_ok-node-clause-goes
returns-in_ok-node-clause-goes c =
    (least_delivered never c.args.given.now c.args.board.now c.deliver.new.board c.args.p (here c.args.given.now c.args.p) c.deliver.ensures.delivered.0 c.is_pending.ensures.legal c.requires.outcomes c.requires.below
    (c.if-is_pending.ensures.pending.0 refl) (there c.args.given.now c.args.p c.requires.within) c.deliver.ensures.delivered.1 c.deliver.ensures.delivered.2).goes

pub returns-in_ok-node-clause-below : goal.returns-in_ok-node-clause-below
returns-in_ok-node-clause-below c =
    delivered_below never c.args.given.now c.args.board.now c.deliver.new.board c.args.p c.requires.below
    (least_delivered never c.args.given.now c.args.board.now c.deliver.new.board c.args.p (here c.args.given.now c.args.p) c.deliver.ensures.delivered.0 c.is_pending.ensures.legal c.requires.outcomes c.requires.below
    (c.if-is_pending.ensures.pending.0 refl) (there c.args.given.now c.args.p c.requires.within) c.deliver.ensures.delivered.1 c.deliver.ensures.delivered.2)

pub returns-else-is_pending-clause-below : goal.returns-else-is_pending-clause-below
returns-else-is_pending-clause-below c = below_more _ _ c.requires.below (λ x. true≢false (sym (c.if-is_pending.ensures.pending.1 x)))
