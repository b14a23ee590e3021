use Rattle.std.proofs.Common.{◌≡◌, ℕ, ◌<◌, ◌≤◌, get_or}
use Rattle.layer_pass.specs.declared.draft.Low.{Low}
use Rattle.layer_pass.specs.inside.Lows.{marked}
use Rattle.layer_pass.proofs.draft.mark_lows.Given as goal

abbrev pub invariant-loop-low : goal.invariant-loop-low
invariant-loop-low l = record {
  done : (k : ℕ) (d : Low) → k < l.low-index → get_or l.lows k d ≡ marked l.below l.p (get_or l.initial.lows k d);
  rest : (k : ℕ) (d : Low) → l.low-index ≤ k → get_or l.lows k d ≡ get_or l.initial.lows k d;
}
