use Rattle.std.proofs.Common.{◌≡◌, ◌∷◌, [], ◌++◌, ◌+◌, drop, ap, sym, append_assoc, true, List, ℕ}
use Rattle.patch_layout.specs.Row.{ancilla_from}
use Rattle.patch_layout.proofs.Whole.{ancilla_here, ancilla_not_here}
use Rattle.patch_layout.proofs.row.push_ancilla.Goals as goal

pub returns-in_ok-push : goal.returns-in_ok-push
returns-in_ok-push c =
    let e = ancilla_here c.args.layout.now c.args.cell (c.is_ancilla.ensures.0 c.if-is_ancilla.true) in
    let p : c.push.new.self.items ≡ c.args.cells.now.items ++ c.args.cell ∷ [] = c.in_ok-push.ensures.items in
    let a = append_assoc c.args.cells.now.items (c.args.cell ∷ []) (ancilla_from (c.args.cell + 1) (drop (c.args.cell + 1) c.args.layout.now.sites)) in
    cc

pub returns-else-is_ancilla : goal.returns-else-is_ancilla
returns-else-is_ancilla c =
    let e = ancilla_not_here c.args.layout.now c.args.cell c.requires (λ is. let t : c.is_ancilla.result ≡ true = c.is_ancilla.ensures.1 is in absurd (cc)) in
    ap (λ (xs : List ℕ). c.args.cells.now.items ++ xs) (sym e)
