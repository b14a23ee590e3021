use Rattle.std.proofs.Common.{◌≡◌, ℕ, nat_eq, take}
use Rattle.std.specs.List.{list_any}
use Rattle.magic_pool.specs.Recount.{is_listed}
use Rattle.slice_write.proofs.factory.runs_of.Given as goal

abbrev pub invariant-loop-fail : goal.invariant-loop-fail
invariant-loop-fail l = (run : ℕ) → list_any (λ r. nat_eq r run) l.runs.items ≡ is_listed (take l.fail-index l.fails) l.factory run
