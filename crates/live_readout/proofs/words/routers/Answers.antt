use Rattle.std.proofs.Common.{◌≡◌, sym, ◌∙◌, arith}
use Rattle.live_readout.proofs.Naming.{same_number}
use Rattle.live_readout.proofs.words.routers.Goals as goal
use Rattle.live_readout.proofs.words.routers.Goals.{else-number-ge1-via-then-number-ge1+else-number-le-ROUTERS, else-number-ge1-via-else-number-ge1}

pub returns-else-number-ge1-clause-none : goal.returns-else-number-ge1-clause-none
returns-else-number-ge1-clause-none c = λ n some within e.
    let value = c.in_ok-number.ensures.value in
    let bytes = c.as_bytes.ensures.value in
    let small = value.0 in
    let same : c.in_ok-number.number ≡ n = same_number c.in_ok-number.number n small (omega arith) (sym value.1 ∙ bytes ∙ e) in
    elim c.else-number-ge1.branch [
      | else-number-ge1-via-then-number-ge1+else-number-le-ROUTERS w ↦ absurd (omega arith)
      | else-number-ge1-via-else-number-ge1 w ↦ absurd (omega arith)
    ]
