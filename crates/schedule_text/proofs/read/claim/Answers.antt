use Rattle.std.proofs.Common.{◌∙◌, sym}
use Rattle.schedule_text.proofs.Worded.{one_of_two, two_values, without_state}
use Rattle.schedule_text.proofs.read.claim.Goals as goal

pub returns-then-is_some-clause-other : goal.returns-then-is_some-clause-other
returns-then-is_some-clause-other c =
    let (small, first) = c.in-Some.ensures.found in
    let (spelled, second) = rw c.in-Some-2.is at c.in_ok-axis.ensures.found in
    let (port, third) = c.in-Some-next_optional.ensures.found in
    let (state, fourth) = c.in-Some-next_optional-2.ensures.found in
    one_of_two c.in-Some.product c.in-Some-2.axis c.in-Some-next_optional.port c.in-Some-next_optional-2.state _ _ _ _ _ port state first second third fourth
    (λ e. two_values c.is_some.result c.is_some-2.result c.if-is_some.true (c.is_some.ensures ∙ (e ∙ sym c.is_some-2.ensures)))

pub returns-in_default-next_optional-2-clause-other : goal.returns-in_default-next_optional-2-clause-other
returns-in_default-next_optional-2-clause-other c =
    let (small, first) = c.in-Some.ensures.found in
    let (spelled, second) = rw c.in-Some-2.is at c.in_ok-axis.ensures.found in
    let (port, third) = c.in-Some-next_optional.ensures.found in
    without_state c.in-Some.product c.in-Some-2.axis c.in-Some-next_optional.port _ _ _ _ first second third c.in_default-next_optional-2.ensures.other
