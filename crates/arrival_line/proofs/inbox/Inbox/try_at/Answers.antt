use Rattle.std.proofs.Common.{refl, arith}
use Rattle.arrival_line.proofs.Inboxes.{one_leaves}
use Rattle.arrival_line.proofs.inbox.Inbox.try_at.Goals as goal

pub returns-in-Done : goal.returns-in-Done
returns-in-Done g c = record {
  key = c.deliver.ensures.key;
  kept = refl;
  goes_on = λ w m h. one_leaves w m _ _ _ _ h c.args.at _ (omega (arith, c.args.self.now.pending.ok, c.requires)) c.index-arrival.ensures _ _ _ _ c.deliver.ensures.made c.swap_remove.ensures.items;
}
