use Rattle.std.proofs.Common.{inl, inr, arith}
use Rattle.std.proofs.lemmas.Bool.{cases_lt}
use Rattle.board_core.proofs.holders.free_between.Goals as goal

pub returns-clause-after : goal.returns-clause-after
returns-clause-after c k l = elim (cases_lt k c.args.first) [
  | inl m ↦ c.loop-cell.invariant.before k m
  | inr m ↦ elim (cases_lt c.args.first c.loop-cell.cell) [
    | inl n ↦ c.loop-cell.invariant.after k (let r = c.loop-cell.invariant.reached n in omega arith)
    | inr n ↦ c.loop-cell.invariant.after k (omega arith)
  ]
]
