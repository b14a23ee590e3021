use Rattle.std.proofs.Common.{inl, subst, sym, ◌∙◌}
use Rattle.history_replay.specs.Answers.{IsVerdict}
use Rattle.history_replay.specs.Replay.{Question, IsTextOf, FirstBadLine, asked}
use Rattle.history_replay.specs.declared.Verdict.{Verdict}
use Rattle.tool_top.proofs.Brought.{same_question}
use Rattle.tool_top.proofs.schedule.replay.Goals as goal

pub returns-in-Illegal-clause-stops : goal.returns-in-Illegal-clause-stops
returns-in-Illegal-clause-stops c =
    let P : Verdict → Type 0 = λ v. IsVerdict (asked c.in_ok-started.started.circuit c.in_ok-started.started.board.job c.in_ok-started.started.outcomes.given) c.args.text.now v in
    let same = same_question c.args.job c.in_ok-started.started.circuit c.in_ok-started.started.board c.in_ok-started.started.outcomes c.in_ok-started.ensures.circuit c.in_ok-started.ensures.board c.in_ok-started.ensures.outcomes in
    (c.if-text-gt-SCHEDULE_BYTES.false, subst (λ (q : Question). FirstBadLine q c.args.text.now c.in-Illegal.line) same (subst P c.in-Illegal.is c.in_ok-board.ensures.judged))

pub returns-in-Illegal-clause-complete : goal.returns-in-Illegal-clause-complete
returns-in-Illegal-clause-complete c = λ v h short is.
    let same = same_question c.args.job c.in_ok-started.started.circuit c.in_ok-started.started.board c.in_ok-started.started.outcomes c.in_ok-started.ensures.circuit c.in_ok-started.ensures.board c.in_ok-started.ensures.outcomes in
    let asks = subst (λ (q : Question). IsTextOf q c.args.text.now v h) (sym same) is in
    let both = sym c.in-Illegal.is ∙ c.in_ok-board.ensures.exact v h asks in
    cc

pub returns-in-Illegal-clause-bad : goal.returns-in-Illegal-clause-bad
returns-in-Illegal-clause-bad c = λ line short bad.
    let same = same_question c.args.job c.in_ok-started.started.circuit c.in_ok-started.started.board c.in_ok-started.started.outcomes c.in_ok-started.ensures.circuit c.in_ok-started.ensures.board c.in_ok-started.ensures.outcomes in
    let first = subst (λ (q : Question). FirstBadLine q c.args.text.now line) (sym same) bad in
    let both = sym c.in-Illegal.is ∙ c.in_ok-board.ensures.first line first in
    inl cc

pub returns-in-Legal-clause-bad : goal.returns-in-Legal-clause-bad
returns-in-Legal-clause-bad c = λ line short bad.
    let same = same_question c.args.job c.in_ok-started.started.circuit c.in_ok-started.started.board c.in_ok-started.started.outcomes c.in_ok-started.ensures.circuit c.in_ok-started.ensures.board c.in_ok-started.ensures.outcomes in
    let first = subst (λ (q : Question). FirstBadLine q c.args.text.now line) (sym same) bad in
    let both = sym c.in-Legal.is ∙ c.in_ok-board.ensures.first line first in
    cc
