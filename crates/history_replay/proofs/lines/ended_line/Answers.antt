use Rattle.std.proofs.Common.{sym, ◌∙◌, refl}
use Rattle.std.proofs.lemmas.Bool.{true≢false}
use Rattle.history_replay.proofs.Feeds.{ended_is, no_line_past, no_line_from}
use Rattle.history_replay.proofs.lines.ended_line.Goals as goal

pub returns-in_default-clause-other : goal.returns-in_default-clause-other
returns-in_default-clause-other c line rest = no_line_past c.args.text.now line rest c.args.at (c.in_default.ensures.end.0 refl)

pub returns-then-line-clause-found : goal.returns-then-line-clause-found
returns-then-line-clause-found c =
    let l = c.in-Some.line in
    let is = c.in-Some.ensures.line in
    ended_is c.args.text.now c.args.at l.start l.end l.next is.start is.end is.next (is.whole.0 c.if-line.true)

pub returns-clause-other : goal.returns-clause-other
returns-clause-other c line rest = no_line_from c.args.text.now line rest c.args.at (λ low. true≢false (sym (c.in-Some.ensures.line.whole.1 low) ∙ c.if-line.false))
