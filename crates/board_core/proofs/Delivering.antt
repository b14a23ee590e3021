-- When a delivery or a settling is allowed, and what it leaves.
use Rattle.std.proofs.Common.{◌≡◌, ℕ, ◌+◌, ◌<◌, ◌≤◌, Bool, ◌==◌, List, [], ◌∷◌, ◌++◌, length, Option, Some, slice_get, refl, ap, sym, arith, subst}
use Rattle.pauli_product.specs.Bits.{number_of}
use Rattle.source_model.specs.declared.Given.{Given}
use Rattle.source_model.specs.declared.Given.TheVariants as given
use Rattle.source_model.specs.declared.Kind.{Kind}
use Rattle.source_model.specs.declared.Kind.TheVariants as kind
use Rattle.source_model.specs.declared.Static.{Static}
use Rattle.board_core.specs.declared.bits.Written.{Written}
use Rattle.board_core.specs.declared.Entry.{Entry}
use Rattle.board_core.specs.declared.Entry.TheVariants.{Deliver, Settle}
use Rattle.board_core.specs.History.{History}
use Rattle.board_core.specs.Legal.{BoardJob, Allowed, IsKind, FlipOf}
use Rattle.board_core.specs.inside.Bits.{value_of, value_in, BitsAre}
use Rattle.board_core.specs.inside.BitsNow.{LastWritten}
use Rattle.board_core.specs.Books.{TakesRegion}
use Rattle.board_core.specs.inside.Books.{CanDeliver}
use Rattle.board_core.specs.Causes.{EntryOf}
use Rattle.board_core.specs.inside.Kept.{Tables, Kept}
use Rattle.board_core.proofs.Tables.{entry_of}
use Rattle.board_core.proofs.Waits.{ready_of}
use Rattle.board_core.proofs.Settling.{settled_flip}

-- what an accepted outcome makes of the tables
abbrev pub Done : BoardJob → History → ℕ → Given → Entry → Tables → Type 0
Done j h p g e u = EntryOf p g e × Allowed j h e × Kept j (h ++ e ∷ []) u

pub rotation_done : (j : BoardJob) (h : History) (p place : ℕ) (s : Static) (g : Given) (raw x : Bool) (t u : Tables) → Kept j h t → CanDeliver j h p s g → s.kind ≡ kind.Rotation → g ≡ given.Rotation raw x → place ≡ length h → ((j : BoardJob) (h : History) (w : Static) → Kept j h t → slice_get j.products p ≡ Some w → w.axis ≡ s.axis → Allowed j h (Deliver p (given.Rotation raw x)) → place ≡ length h → Kept j (h ++ Deliver p (given.Rotation raw x) ∷ []) u) → Done j h p g (Deliver p g) u
rotation_done j h p place s g raw x t u k d is is' at noted =
    let a : Allowed j h (Deliver p (given.Rotation raw x)) = (d.claimed (subst TakesRegion (sym is) tt), d.undone, (s, d.product, subst (λ (y : Kind). IsKind y (given.Rotation raw x)) (sym is) tt)) in
    subst (λ (y : Given). Done j h p y (Deliver p y) u) (sym is') (refl, a, noted j h s k d.product refl a at)

pub measure_done : (j : BoardJob) (h : History) (p place bit : ℕ) (s : Static) (g : Given) (raw : Bool) (t u : Tables) → Kept j h t → CanDeliver j h p s g → s.kind ≡ kind.Measure bit → g ≡ given.Measure raw → place ≡ length h → ((j : BoardJob) (h : History) (w : Static) → Kept j h t → slice_get j.products p ≡ Some w → w.axis ≡ s.axis → w.kind ≡ kind.Measure bit → Allowed j h (Deliver p (given.Measure raw)) → place ≡ length h → Kept j (h ++ Deliver p (given.Measure raw) ∷ []) u) → Done j h p g (Deliver p g) u
measure_done j h p place bit s g raw t u k d is is' at noted =
    let a : Allowed j h (Deliver p (given.Measure raw)) = (d.claimed (subst TakesRegion (sym is) tt), d.undone, (s, d.product, subst (λ (y : Kind). IsKind y (given.Measure raw)) (sym is) tt)) in
    subst (λ (y : Given). Done j h p y (Deliver p y) u) (sym is') (refl, a, noted j h s k d.product refl is a at)

-- the bits of the table are those that the history has written
bits_known : (j : BoardJob) (h : History) (bits : List Written) (b : ℕ) → BitsAre j h bits → b < length bits → (by : Option ℕ) × LastWritten j h b by (value_in bits b)
bits_known j h bits b are within =
    let w = entry_of bits b within in
    (w.0.by, subst (λ (v : Bool). LastWritten j h b w.0.by v) (sym (ap value_of w.1)) (are b w.0 w.1))

pub settle_done : (j : BoardJob) (h : History) (p place first size value : ℕ) (flip : Bool) (s : Static) (g : Given) (t u : Tables) → Kept j h t → CanDeliver j h p s g → s.kind ≡ kind.Settle first size value → g ≡ given.Settled → first + size ≤ length t.bits → flip ≡ (number_of (value_in t.bits) first size == value) → place ≡ length h → ((j : BoardJob) (h : History) (w : Static) → Kept j h t → slice_get j.products p ≡ Some w → w.axis ≡ s.axis → Allowed j h (Settle p flip) → place ≡ length h → Kept j (h ++ Settle p flip ∷ []) u) → Done j h p g (Settle p flip) u
settle_done j h p place first size value flip s g t u k d is is' reach flips at noted =
    let ready = ready_of j h p (d.ready is') in
    let f : FlipOf j h p flip = subst (λ (b : Bool). FlipOf j h p b) (sym flips) (settled_flip k.limits.qubits j h p s first size value k.limits.axes_fit k.legal d.product is d.undone ready (value_in t.bits) (λ b l m. bits_known j h t.bits b k.bits (omega arith))) in
    let a : Allowed j h (Settle p flip) = (d.undone, ready, f) in
    subst (λ (y : Given). Done j h p y (Settle p flip) u) (sym is') ((flip, refl), a, noted j h s k d.product refl a at)
