use Rattle.std.proofs.Common.{◌≡◌, ℕ, ◌<◌, Some, slice_get}
use Rattle.source_model.specs.declared.Static.{Static}
use Rattle.board_core.specs.inside.Books.{NamesBelow}
use Rattle.board_core.proofs.bits.bit_count.Given as goal

abbrev pub invariant-loop-product : goal.invariant-loop-product
invariant-loop-product l = (p : ℕ) (s : Static) → p < l.product-index → slice_get l.products p ≡ Some s → NamesBelow l.count s.kind
