use Rattle.std.proofs.Common.{◌≡◌, ℕ, true, arith}
use Rattle.std.proofs.lemmas.Bool.{false≢true}
use Rattle.patch_layout.specs.Grid.{IsPort}
use Rattle.patch_layout.proofs.Opening.{to_more, ports_none}
use Rattle.patch_layout.proofs.openness.has_port.Goals as goal

pub loop-cell-preserved : goal.loop-cell-preserved
loop-cell-preserved c =
    to_more (λ m. (f : ℕ) → IsPort c.args.layout.now f m → ⊥) c.loop-cell.cell c.loop-cell.invariant
    (λ f p. let t : c.is_port.result ≡ true = c.is_port.ensures.1 (f, p) in absurd (cc))

pub returns : goal.returns
returns c = (λ t. absurd (false≢true t), λ has. absurd (ports_none c.args.layout.now c.loop-cell.cell (omega (arith, c.size-cell-end.ensures.value)) c.loop-cell.invariant has))
