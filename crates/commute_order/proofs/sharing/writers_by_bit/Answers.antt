use Rattle.std.proofs.Common.{rules}
use Rattle.std.proofs.lemmas.List.Sorted.{IsNonDecreasingBy-from_sort_by_key}
use Rattle.commute_order.proofs.WriterLists.{reordered}
use Rattle.commute_order.proofs.sharing.writers_by_bit.Goals as goal

pub returns-clause-listed : goal.returns-clause-listed
returns-clause-listed c = reordered c.args.uses.now _ c.in_ok-writers.writers.items c.sort_unstable_by_key.new.self.items c.sort_unstable_by_key.ensures.permutation c.in_ok-writers.ensures

pub returns-clause-rising : goal.returns-clause-rising
returns-clause-rising c = IsNonDecreasingBy-from_sort_by_key (λ w. w.bit) _ c.sort_unstable_by_key.ensures.sorted (λ a r q k. search rules)
