-- The bits that the done products of a history have written.
use Rattle.std.specs.Prelude.{◌≡◌, ℕ, Bool, false, ◌≤◌, slice_get, Option, Some, None, IsSome}
use Rattle.pauli_product.specs.Signed.{Signed}
use Rattle.pauli_product.specs.Corrections.{effective}
use Rattle.source_model.specs.declared.Given.{Given}
use Rattle.source_model.specs.declared.Kind.TheVariants as kind
use Rattle.source_model.specs.declared.Static.{Static}
use Rattle.source_model.specs.Outcomes.{raw_of}
use Rattle.board_core.specs.History.{History, delivered, done_place}
use Rattle.board_core.specs.Legal.{BoardJob}
use Rattle.board_core.specs.View.{claimed_axis}

-- q is a measurement into the bit
abbrev pub WritesBit : BoardJob → ℕ → ℕ → Type 0
WritesBit j b q = (s : Static) × (slice_get j.products q ≡ Some s) × (s.kind ≡ kind.Measure b)

-- its effective outcome is v
abbrev pub HasOutcome : History → ℕ → Bool → Type 0
HasOutcome h q v = (axis : Signed) × (g : Given) × (claimed_axis h q ≡ Some axis) × (delivered h q ≡ Some g) × (v ≡ effective axis (raw_of g))

-- of the done products that write the bit, the last one in source order, and its effective outcome; none, and 0, where there is none
abbrev pub LastWritten : BoardJob → History → ℕ → Option ℕ → Bool → Type 0
LastWritten j h b None v = ((q : ℕ) → WritesBit j b q → done_place h q ≡ None) × (v ≡ false)
LastWritten j h b (Some q) v =
    WritesBit j b q × HasOutcome h q v × ((r : ℕ) → WritesBit j b r → IsSome (done_place h r) → r ≤ q)
