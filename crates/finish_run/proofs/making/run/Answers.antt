-- A step comes next as long as no factory has a ready state, and isn't refused then.
use Rattle.std.proofs.Common.{◌≡◌, ℕ, ◌<◌, List, [], sym, ap, ◌∙◌, subst, arith}
use Rattle.source_model.specs.declared.Given.{Given}
use Rattle.patch_layout.specs.Grid.{Grid}
use Rattle.patch_layout.specs.Openness.{Least}
use Rattle.board_core.specs.declared.Entry.TheVariants.{Step}
use Rattle.board_core.specs.Legal.{BoardJob}
use Rattle.board_core.specs.Position.{Position, with_entry}
use Rattle.finish_run.specs.Next.{IsFactory, NoStates, IsTurnOf, IsRotation, never}
use Rattle.finish_run.specs.Finished.{GoesOn}
use Rattle.finish_run.proofs.Onward.{goes_job, goes_more, goes_one}
use Rattle.finish_run.proofs.Stocked.{running_none}
use Rattle.finish_run.proofs.Stepping.{factory_there, step_allowed, least_same, same_rotation, turn_step, goes_longer, entry_longer}
use Rattle.finish_run.proofs.making.run.Goals as goal

pub least_factory-factory-requires : goal.least_factory-factory-requires
least_factory-factory-requires c =
    subst (λ (g : Grid). (f : ℕ) × (f < 16) × IsFactory g f) (sym c.layout.ensures)
    (factory_there c.args.board.now c.requires.wants.0 c.requires.legal c.requires.wants.1.rotation)

-- the least factory is the one of the layout at each place
least : (b d : Position) (g : Grid) (f : ℕ) → g ≡ b.job.grid → d.job ≡ b.job → Least (IsFactory g) f → Least (IsFactory d.job.grid) f
least b d g f e s x = least_same g d.job.grid f (e ∙ ap (λ (j : BoardJob). j.grid) (sym s)) x

pub step-requires : goal.step-requires
step-requires c =
    let same = goes_job never [] c.args.board.now c.loop-node.board (c.loop-node.invariant.goes []) in
    let first = least c.args.board.now c.loop-node.board c.layout.result.now c.least_factory-factory.result c.layout.ensures same c.least_factory-factory.ensures in
    step_allowed c.loop-node.board c.least_factory-factory.result c.loop-node.invariant.legal first.0 c.loop-node.invariant.none

-- the board behind one step more
one_more : (given : List Given) (b d e : Position) (g : Grid) (f : ℕ) → g ≡ b.job.grid → Least (IsFactory g) f → (p : ℕ) → IsTurnOf b p → IsRotation b p → ((p : ℕ) → IsTurnOf b p → IsTurnOf d p)
    → NoStates d → GoesOn never given b d → e ≡ with_entry d 0 (Step f) → GoesOn never given b e
one_more given b d e g f grid first p turn rotation turns none goes is =
    let same = goes_job never given b d goes in
    goes_more never given b d e goes
    (goes_one never given d e (Step f) is (least b d g f grid same first, none, (p, turns p turn, same_rotation b d p same rotation)))

pub loop-node-preserved : goal.loop-node-preserved
loop-node-preserved c = record {
  goes = λ given. one_more given c.args.board.now c.loop-node.board c.step.new.board c.layout.result.now c.least_factory-factory.result c.layout.ensures c.least_factory-factory.ensures
      c.requires.wants.0 c.requires.wants.1.turn c.requires.wants.1.rotation c.loop-node.invariant.turn c.loop-node.invariant.none (c.loop-node.invariant.goes given) c.in-Running.ensures.stepped;
  legal = c.in-Running.ensures.legal;
  none = running_none c.loop-node.board c.step.new.board c.least_factory-factory.result c.in-Running.ensures.stepped c.in-Running.ensures.outcome c.loop-node.invariant.none;
  turn = λ p t. turn_step c.loop-node.board c.step.new.board c.least_factory-factory.result c.in-Running.ensures.stepped p (c.loop-node.invariant.turn p t);
}

pub returns-in-Made : goal.returns-in-Made
returns-in-Made c =
    let before = goes_longer never [] c.args.board.now c.loop-node.board (c.loop-node.invariant.goes []) in
    let more = entry_longer c.loop-node.board c.step.new.board (Step c.least_factory-factory.result) c.step.ensures.stepped in
    record {
      goes = λ given. one_more given c.args.board.now c.loop-node.board c.step.new.board c.layout.result.now c.least_factory-factory.result c.layout.ensures c.least_factory-factory.ensures
          c.requires.wants.0 c.requires.wants.1.turn c.requires.wants.1.rotation c.loop-node.invariant.turn c.loop-node.invariant.none (c.loop-node.invariant.goes given) c.step.ensures.stepped;
      legal = c.step.ensures.legal;
      grows = omega (arith, before, more);
      turn = λ p t. turn_step c.loop-node.board c.step.new.board c.least_factory-factory.result c.step.ensures.stepped p (c.loop-node.invariant.turn p t);
    }
