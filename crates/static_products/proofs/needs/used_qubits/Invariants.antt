use Rattle.std.proofs.Common.{◌≡◌, ℕ, ◌<◌, Some, length, slice_get}
use Rattle.source_model.specs.Used.{is_used}
use Rattle.static_products.proofs.needs.used_qubits.Given as goal

abbrev pub invariant-loop-q : goal.invariant-loop-q
invariant-loop-q l =
    (length l.used.items ≡ l.q)
    × ((k : ℕ) → k < l.q → slice_get l.used.items k ≡ Some (is_used l.products k))
