-- A try leaves the hand as it is.
use Rattle.std.proofs.Common.{◌<◌, List, length, sym, subst, arith}
use Rattle.std.specs.List.{Contains}
use Rattle.source_model.specs.declared.Given.{Given}
use Rattle.number_share.specs.Hands.{Owner}
use Rattle.router_tests.proofs.attempts.first_wrong.Goals as goal

pub loop-at-preserved : goal.loop-at-preserved
loop-at-preserved g c = λ n below.
    let may = c.loop-at.invariant n below in
    let does = c.attempt.ensures in
    (subst (λ (h : Owner). Contains h.held n) (sym does.hand) may.0, subst (λ (l : List Given). n < length l) (sym does.same.given) may.1)

pub attempt-requires-clause-taken : goal.attempt-requires-clause-taken
attempt-requires-clause-taken g c κs within = (c.loop-at.invariant _ (omega arith)).0
