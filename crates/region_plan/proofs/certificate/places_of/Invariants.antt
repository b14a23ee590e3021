use Rattle.std.proofs.Common.{◌≡◌, ℕ, ◌<◌, length, slice_get, Some}
use Rattle.region_plan.proofs.certificate.places_of.Given as goal

abbrev pub invariant-loop-index : goal.invariant-loop-index
invariant-loop-index l = ((i c : ℕ) → i < l.index → slice_get l.cells i ≡ Some c → slice_get l.places.items c ≡ Some i) × (length l.places.items ≡ l.size)
