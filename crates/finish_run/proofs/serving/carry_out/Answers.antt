-- All products before it are done, so it is the product's turn unless it is done.
use Rattle.std.proofs.Common.{◌≡◌, ◌⊎◌, inl, inr, ◌<◌, Bool, ℕ, ◌+◌, List, Some, false, IsSome, length, slice_get, get_or, refl, sym, ap, ◌∙◌}
use Rattle.std.proofs.lemmas.Bool.{true≢false}
use Rattle.std.proofs.lemmas.Option.{slice_get-get_or}
use Rattle.source_model.specs.declared.Given.{Given}
use Rattle.source_model.specs.declared.Given.TheVariants.{Measure, Rotation, Settled}
use Rattle.board_core.specs.History.{done_place}
use Rattle.board_core.specs.Position.{past}
use Rattle.finish_run.specs.inside.Finished.{DoneBelow}
use Rattle.finish_run.specs.Next.{never}
use Rattle.finish_run.proofs.Onward.{goes_any}
use Rattle.finish_run.proofs.Rest.{below_on, done_already, done_to, is_product, on_ok, turn_of}
use Rattle.finish_run.proofs.serving.carry_out.Goals as goal

abbrev here : List Given → ℕ → Given
here gs p = get_or gs p (Rotation false false)

there : (gs : List Given) (p : ℕ) → p < length gs → slice_get gs p ≡ Some (here gs p)
there gs p l = slice_get-get_or gs p (Rotation false false) l

unsettled : (gs : List Given) (p : ℕ) → p < length gs → (here gs p ≡ Settled → ⊥) → slice_get gs p ≡ Some Settled → ⊥
unsettled gs p l not e = not (same (here gs p) (sym (there gs p l) ∙ e))
  where
    same : (g : Given) → Some g ≡ Some Settled → g ≡ Settled
    same g e = cc

others : (g : Given) → ((raw : Bool) × (x : Bool) × (g ≡ Rotation raw x)) ⊎ ((raw : Bool) × (g ≡ Measure raw)) → g ≡ Settled → ⊥
others g (inl y) e = cc
others g (inr y) e = cc

pub is_undone-requires : goal.is_undone-requires
is_undone-requires g c = is_product c.args.board.now c.args.p c.args.given.now c.requires.outcomes c.requires.within

pub returns-then-not-is_undone-clause-below : goal.returns-then-not-is_undone-clause-below
returns-then-not-is_undone-clause-below g c =
    done_to (past c.args.board.now) c.args.p c.requires.below
    (done_already (past c.args.board.now) c.args.p (λ n. true≢false (sym (c.if-not-is_undone.ensures.undone.1 n))))

pub settle-requires-clause-turn : goal.settle-requires-clause-turn
settle-requires-clause-turn g c =
    turn_of c.args.board.now c.args.p c.args.given.now c.requires.outcomes c.requires.within c.requires.idle c.requires.below (c.if-not-is_undone.ensures.undone.0 refl)

pub settle-requires-clause-settled : goal.settle-requires-clause-settled
settle-requires-clause-settled g c = there c.args.given.now c.args.p c.requires.within ∙ ap (λ (x : Given). Some x) c.in-Settled.is

pub serve-requires : goal.serve-requires
serve-requires g c = record {
  outcomes = c.requires.outcomes;
  legal = c.is_undone.ensures.legal;
  made = c.requires.made;
  turn = turn_of c.args.board.now c.args.p c.args.given.now c.requires.outcomes c.requires.within c.requires.idle c.requires.below (c.if-not-is_undone.ensures.undone.0 refl);
  within = c.requires.within;
  unsettled = unsettled c.args.given.now c.args.p c.requires.within (others (here c.args.given.now c.args.p) c.in-Rotation.is);
}

pub returns-in-Settled-clause-goes : goal.returns-in-Settled-clause-goes
returns-in-Settled-clause-goes g c = goes_any g.P.Planner.meets c.args.given.now c.args.board.now c.settle.new.board c.settle.ensures.goes

pub returns-in-Settled-clause-below : goal.returns-in-Settled-clause-below
returns-in-Settled-clause-below g c =
    on_ok c.settle.result (IsSome (done_place (past c.settle.new.board) c.args.p)) (DoneBelow (past c.settle.new.board) (c.args.p + 1))
    (λ s. below_on never c.args.given.now c.args.board.now c.settle.new.board c.args.p c.settle.ensures.goes c.requires.below s) c.settle.ensures.done

pub returns-in-Rotation : goal.returns-in-Rotation
returns-in-Rotation g c = record {
  goes = c.serve.ensures.goes;
  legal = c.serve.ensures.legal;
  made = c.serve.ensures.made;
  idle = c.serve.ensures.idle;
  below = on_ok c.serve.result (IsSome (done_place (past c.serve.new.board) c.args.p)) (DoneBelow (past c.serve.new.board) (c.args.p + 1))
      (λ s. below_on g.P.Planner.meets c.args.given.now c.args.board.now c.serve.new.board c.args.p c.serve.ensures.goes c.requires.below s) c.serve.ensures.done;
}
