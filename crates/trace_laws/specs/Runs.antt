-- Products carried out in an order of their own, with the frame kept by executed axes.
use Rattle.std.specs.Prelude.{ℕ, zero, suc, Bool, false, ◌==◌, if◌then◌else◌, List, [], ◌∷◌, ◌++◌, length, Option, Some, None, slice_get}
use Rattle.pauli_product.specs.Signed.{Signed}
use Rattle.pauli_product.specs.Pulls.{Turn, half, pull, carry}
use Rattle.pauli_product.specs.Bits.{number_of}
use Rattle.pauli_product.specs.Corrections.{effective, corrections, turn_if}
use Rattle.trace_laws.specs.Steps.{Act, rotate, measure, settle, Step, act_writes}

-- what is known along an order: the corrections so far, the first one first, and the executed axes by product, the newest first
pub record Trace : Type 0 where
  pub turns : List Turn
  pub axes : List (ℕ × Signed)

abbrev pub begun : Trace
begun = record { turns = []; axes = [] }

-- the executed axis of a product, if it was carried out
abbrev pub executed_axis : List (ℕ × Signed) → ℕ → Option Signed
executed_axis [] p = None
executed_axis (e ∷ es) p = if e.0 == p then Some e.1 else executed_axis es p

-- the axis that a product has now: its static axis conjugated by all corrections so far
abbrev pub axis_now : Trace → Step → Signed
axis_now t s = carry t.turns s.axis

-- the raw outcome
abbrev pub raw_of_act : Act → Bool
raw_of_act (rotate raw x) = raw
raw_of_act (measure raw bit) = raw
raw_of_act (settle first size value) = false

-- a bit after a product, which may have been carried out
abbrev pub bit_after_step : Option Step → Option Signed → ℕ → Bool → Bool
bit_after_step None a b before = before
bit_after_step (Some s) None b before = before
bit_after_step (Some s) (Some a) b before = if act_writes s.act b then effective a (raw_of_act s.act) else before

-- the effective outcome of the greatest product below p that writes the bit and was carried out, and 0 where there is none
abbrev pub bit_below : List Step → List (ℕ × Signed) → ℕ → ℕ → Bool
bit_below steps done zero b = false
bit_below steps done (suc p) b = bit_after_step (slice_get steps p) (executed_axis done p) b (bit_below steps done p b)

-- whether product p flips, by the bits of products that stand before it in source order and along this order
abbrev pub flips_in_order : List Step → Trace → ℕ → Act → Bool
flips_in_order steps t p (rotate raw x) = false
flips_in_order steps t p (measure raw bit) = false
flips_in_order steps t p (settle first size value) = number_of (bit_below steps t.axes p) first size == value

-- the turns that a product leaves about an axis, where it was executed about another
abbrev pub left_about : Signed → Signed → Act → Bool → List Turn
left_about executed axis (rotate raw x) flip = corrections executed axis raw x
left_about executed axis (measure raw bit) flip = []
left_about executed axis (settle first size value) flip = turn_if flip axis half

-- the turns that it leaves about its executed axis
abbrev pub left_by : Signed → Act → Bool → List Turn
left_by axis act flip = left_about axis axis act flip

-- a product carried out about the axis that it has now
abbrev pub carried_out : Trace → ℕ → Step → Bool → Trace
carried_out t p s flip =
    record { turns = t.turns ++ left_by (axis_now t s) s.act flip; axes = (p, axis_now t s) ∷ t.axes }

-- how it is chosen whether a product flips
abbrev pub Flipping : Type 0
Flipping = Trace → ℕ → Act → Bool

-- a product carried out, if there is one
abbrev pub carried_out_if : Flipping → Trace → ℕ → Option Step → Trace
carried_out_if flip t p None = t
carried_out_if flip t p (Some s) = carried_out t p s (flip t p s.act)

-- a number's product carried out; a number that has none is passed over
unfoldable pub next : Flipping → List Step → Trace → ℕ → Trace
next flip steps t p = carried_out_if flip t p (slice_get steps p)

-- an order carried out
abbrev pub all_carried_out : Flipping → List Step → Trace → List ℕ → Trace
all_carried_out flip steps t [] = t
all_carried_out flip steps t (p ∷ w) = all_carried_out flip steps (next flip steps t p) w

-- by a table of flips
abbrev pub given : (ℕ → Bool) → Flipping
given table t p act = table p

-- the executed axis of each product of an order, where the bits decide what flips
abbrev pub run : List Step → List ℕ → ℕ → Option Signed
run steps w p = executed_axis (all_carried_out (flips_in_order steps) steps begun w).axes p

-- the same with each settled product's flip taken from a table
abbrev pub run_with : List Step → (ℕ → Bool) → List ℕ → ℕ → Option Signed
run_with steps table w p = executed_axis (all_carried_out (given table) steps begun w).axes p

-- ---- a gate at a time
-- source order with the turns about the products' own axes: a product is executed about its own axis pulled through them
abbrev pub plain_next : List Step → Trace → ℕ → Option Step → Trace
plain_next steps t p None = t
plain_next steps t p (Some s) =
    record { turns = t.turns ++ left_about (pull t.turns s.axis) s.axis s.act (flips_in_order steps t p s.act); axes = (p, pull t.turns s.axis) ∷ t.axes }

-- after the first m products
abbrev pub plain : List Step → ℕ → Trace
plain steps zero = begun
plain steps (suc m) = plain_next steps (plain steps m) m (slice_get steps m)

-- whether it flips, if there is one
abbrev pub flip_of : List Step → Trace → ℕ → Option Step → Bool
flip_of steps t p None = false
flip_of steps t p (Some s) = flips_in_order steps t p s.act

-- what flips a gate at a time
unfoldable pub source_flip : List Step → ℕ → Bool
source_flip steps p = flip_of steps (plain steps p) p (slice_get steps p)

-- the executed axis of a product a gate at a time
abbrev pub source_axis : List Step → ℕ → Option Signed
source_axis steps p = executed_axis (plain steps (length steps)).axes p
