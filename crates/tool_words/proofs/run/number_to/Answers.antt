use Rattle.std.proofs.Common.{◌≡◌, sym, ◌∙◌, arith}
use Rattle.tool_words.proofs.Only.{same_number}
use Rattle.tool_words.proofs.run.number_to.Goals as goal
use Rattle.tool_words.proofs.run.number_to.Goals.{else-number-ge1-via-then-number-ge1+else-number-most, else-number-ge1-via-else-number-ge1}

pub returns-else-number-ge1-clause-none : goal.returns-else-number-ge1-clause-none
returns-else-number-ge1-clause-none c = λ n some within e.
    let value = c.in_ok-number.ensures.value in
    let fits = c.ranges.most.fits in
    let bytes = c.as_bytes.ensures.value in
    let small = value.0 in
    let same : c.in_ok-number.number ≡ n = same_number c.in_ok-number.number n small (omega arith) (sym value.1 ∙ bytes ∙ e) in
    elim c.else-number-ge1.branch [
      | else-number-ge1-via-then-number-ge1+else-number-most w ↦ absurd (omega arith)
      | else-number-ge1-via-else-number-ge1 w ↦ absurd (omega arith)
    ]
