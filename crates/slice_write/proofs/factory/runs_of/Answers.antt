use Rattle.std.proofs.Common.{nat_eq, ap, sym, ◌∙◌}
use Rattle.std.proofs.lemmas.List.{take_all}
use Rattle.std.proofs.lemmas.List.Sorted.{IsNonDecreasingBy-from_sort, list_any-IsPermutation}
use Rattle.magic_pool.specs.Recount.{is_listed}
use Rattle.magic_pool.proofs.Runs.{listed_here, listed_elsewhere}
use Rattle.slice_write.proofs.factory.runs_of.Goals as goal
use Rattle.slice_write.proofs.factory.runs_of.Goals.{then-fail-factory+in_ok-push, else-fail-factory}

pub loop-fail-preserved : goal.loop-fail-preserved
loop-fail-preserved c = λ run. elim c.if-fail-factory.branch [
  | then-fail-factory+in_ok-push w ↦ rw w.runs-is (listed_here c.args.fails.now c.loop-fail.fail-index _ c.args.factory run c.loop-fail.runs.items w.push.new.self.items c.loop-fail-test.true w.if-fail-factory.true w.in_ok-push.ensures.items (c.loop-fail.invariant run))
  | else-fail-factory w ↦ rw w.runs-is (listed_elsewhere c.args.fails.now c.loop-fail.fail-index _ c.args.factory run c.loop-fail.runs.items c.loop-fail-test.true w.if-fail-factory.false (c.loop-fail.invariant run))
]

pub returns-clause-sorted : goal.returns-clause-sorted
returns-clause-sorted c = IsNonDecreasingBy-from_sort (λ x. x) c.sort_unstable.new.self.items c.sort_unstable.ensures.sorted

pub returns-clause-listed : goal.returns-clause-listed
returns-clause-listed c = λ run.
    sym (list_any-IsPermutation (λ r. nat_eq r run) c.loop-fail.runs.items c.sort_unstable.new.self.items c.sort_unstable.ensures.permutation)
    ∙ c.loop-fail.invariant run
    ∙ ap (λ l. is_listed l c.args.factory run) (take_all c.loop-fail.fail-index c.args.fails.now c.loop-fail-test.false)
