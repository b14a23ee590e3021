use Rattle.std.proofs.Common.{ℕ, ◌+◌, ◌-◌, ◌<◌, ◌≤◌, length, take, drop, get_or, ltb, rules, arith, take_all, length-drop}
use Rattle.std.proofs.lemmas.Bool.{ltb-true, ltb-false}
use Rattle.std.proofs.lemmas.List.Sorted.{IsPartitionPoint-from_clause, IsPartitionedBy-ltb, IsNonDecreasingBy-take, IsNonDecreasingBy-drop}
use Rattle.commute_order.specs.declared.sharing.Writer.{Writer}
use Rattle.commute_order.proofs.WriterLists.{run_read, run_each}
use Rattle.commute_order.proofs.sharing.writers_read.Goals as goal

pub returns : goal.returns
returns c =
    let ws = c.args.writers.now in
    let u = c.args.own.now in
    let from = c.partition_point-from.result in
    let count = c.partition_point-count.result in
    let rest = take (length ws - from) (drop from ws) in
    let end = u.read_first + u.read_size in
    let short : from ≤ length ws = c.partition_point-from.ensures.bound in
    let tail = take_all (length ws - from) (drop from ws) (omega (arith, length-drop from ws)) in
    let part : count ≤ length rest = c.partition_point-count.ensures.bound in
    let first = IsPartitionPoint-from_clause (λ (w : Writer). ltb w.bit u.read_first) ws from c.partition_point-from.ensures.partitioned (IsPartitionedBy-ltb (λ (w : Writer). w.bit) ws u.read_first c.requires) (λ a r q k. search rules) in
    let rising = IsNonDecreasingBy-take (λ (w : Writer). w.bit) (length ws - from) (drop from ws) (IsNonDecreasingBy-drop (λ (w : Writer). w.bit) from ws c.requires) in
    let second = IsPartitionPoint-from_clause (λ (w : Writer). ltb w.bit end) rest count c.partition_point-count.ensures.partitioned (IsPartitionedBy-ltb (λ (w : Writer). w.bit) rest end rising) (λ a r q k. search rules) in
    let low : (k : ℕ) (d : Writer) → k < from → (get_or ws k d).bit < u.read_first = λ k d h. ltb-true _ _ (first.0 k d (omega arith) h) in
    let high : (k : ℕ) (d : Writer) → from ≤ k → k < length ws → u.read_first ≤ (get_or ws k d).bit = λ k d h l. ltb-false _ _ (first.1 k d h l) in
    let below : (k : ℕ) (d : Writer) → k < count → (get_or rest k d).bit < end = λ k d h. ltb-true _ _ (second.0 k d (omega arith) h) in
    let above : (k : ℕ) (d : Writer) → count ≤ k → k < length rest → end ≤ (get_or rest k d).bit = λ k d h l. ltb-false _ _ (second.1 k d h l) in
    record {
      read = run_read u ws rest from count tail short low high part below above;
      each = run_each u ws rest from count tail short low high part below above;
    }
