use Rattle.std.proofs.Common.{◌≡◌, [], ◌∷◌, sym, subst, refl}
use Rattle.pauli_product.specs.declared.Letter.{Letter}
use Rattle.patch_layout.specs.declared.layout.Edge.TheVariants as edge
use Rattle.patch_layout.specs.declared.layout.Side.TheVariants as side
use Rattle.patch_layout.specs.Region.{sides_of}
use Rattle.patch_layout.proofs.Checking.{second_side}
use Rattle.patch_layout.proofs.checker.bad_in_letter.Goals as goal

pub returns-in-None : goal.returns-in-None
returns-in-None c =
    let q = c.args.qubit in
    let P : Letter → Type 0 = λ l. sides_of q l ≡ side.Patch q edge.X ∷ side.Patch q edge.Z ∷ [] in
    second_side c.args.layout.now c.args.cells.now c.args.touches.now c.args.place c.args.letter q (side.Patch q edge.X) (side.Patch q edge.Z) c.bad_at-in-None.result (subst P (sym c.in-Y.is) refl) c.in-None.ensures c.bad_at-in-None.ensures
