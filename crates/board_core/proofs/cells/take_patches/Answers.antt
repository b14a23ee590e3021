use Rattle.std.proofs.Common.{◌≡◌, ℕ, ◌+◌, length, ap, sym, ◌∙◌, arith, subst}
use Rattle.board_core.specs.inside.Cells.{IsCellBelow, Taken}
use Rattle.board_core.proofs.CellTables.{length_given, patch_within, take_patch_next}
use Rattle.board_core.proofs.cells.take_patches.Goals as goal

pub give-requires : goal.give-requires
give-requires c k e =
    let w = patch_within c.args.layout.now c.args.axis.now c.loop-qubit.qubit c.patch_at.result c.patch_at.ensures k e in
    let s = c.loop-qubit.invariant.size ∙ c.requires in
    omega arith

pub loop-qubit-preserved : goal.loop-qubit-preserved
loop-qubit-preserved c = record {
  size = ap length c.give.ensures ∙ length_given c.patch_at.result c.args.by c.loop-qubit.holders ∙ c.loop-qubit.invariant.size;
  taken = λ f cells first t.
      let before = c.loop-qubit.invariant.taken f cells first t in
      take_patch_next c.args.layout.now c.args.axis.now f cells c.args.by c.loop-qubit.qubit first c.loop-qubit.holders c.give.new.holders c.patch_at.result c.give.ensures
      (sym t.0 ∙ c.requires) (omega arith) c.patch_at.ensures before;
}

pub returns-clause-taken : goal.returns-clause-taken
returns-clause-taken c f cells first t =
    let e : length cells + c.loop-qubit.qubit ≡ length cells + length c.args.axis.now.letters = omega (arith, c.loop-qubit.auto.qubit-end) in
    subst (λ (n : ℕ). Taken (IsCellBelow c.args.layout.now c.args.axis.now f cells n) c.args.by first c.loop-qubit.holders) e (c.loop-qubit.invariant.taken f cells first t)
