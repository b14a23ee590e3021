use Rattle.std.proofs.Common.{◌≡◌, ℕ, ◌+◌, length, arith, subst}
use Rattle.board_core.specs.inside.Cells.{IsCellBelow, LeastTaken}
use Rattle.board_core.proofs.CellTables.{patch_within, least_patch_next}
use Rattle.board_core.proofs.cells.least_of_patches.Goals as goal

pub better-best-requires : goal.better-best-requires
better-best-requires c k e =
    let w = patch_within c.args.layout.now c.args.axis.now c.loop-qubit.qubit c.patch_at.result c.patch_at.ensures k e in
    let s = c.requires in
    omega arith

pub loop-qubit-preserved : goal.loop-qubit-preserved
loop-qubit-preserved c f cells t =
    least_patch_next c.args.layout.now c.args.axis.now f cells c.loop-qubit.qubit c.args.holders.now c.loop-qubit.best c.better-best.result c.patch_at.result c.better-best.ensures c.requires (omega arith) c.patch_at.ensures (c.loop-qubit.invariant f cells t)

pub returns : goal.returns
returns c f cells t =
    let e : length cells + c.loop-qubit.qubit ≡ length cells + length c.args.axis.now.letters = omega (arith, c.loop-qubit.auto.qubit-end) in
    subst (λ (n : ℕ). LeastTaken (IsCellBelow c.args.layout.now c.args.axis.now f cells n) c.args.holders.now c.loop-qubit.best) e (c.loop-qubit.invariant f cells t)
