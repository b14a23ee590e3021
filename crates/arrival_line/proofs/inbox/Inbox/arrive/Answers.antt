use Rattle.std.proofs.Common.{sym}
use Rattle.arrival_line.proofs.Inboxes.{stray_comes, other_comes}
use Rattle.arrival_line.proofs.inbox.Inbox.arrive.Goals as goal

pub returns-in_ok-push-2-clause-goes_on : goal.returns-in_ok-push-2-clause-goes_on
returns-in_ok-push-2-clause-goes_on g c =
    λ w m h. c.try_one.ensures.goes_on w m (other_comes w m _ _ _ _ h c.args.arrival _ _ c.sift.ensures.wanted c.in_ok-push.ensures.items _ c.in_ok-push-2.ensures.items (sym c.if-sift.ensures.answer))

pub returns-else-sift-clause-goes_on : goal.returns-else-sift-clause-goes_on
returns-else-sift-clause-goes_on g c = λ w m h. stray_comes w m _ _ _ _ h c.args.arrival _ _ c.sift.ensures.wanted c.in_ok-push.ensures.items (sym c.if-sift.ensures.answer)
